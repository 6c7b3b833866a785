-- `small_length` meets its contract: n times b is below 2^34.
-- Assumes nothing.
use Rattle.std.proofs.Common.{ℕ, ◌+◌, ◌*◌, ◌/◌, ◌≤◌, ap, arith}
use native.Mathlib.Nat.{mul-le-mul}
use Rattle.definitions.specs.Parameters.{small_length}
use Rattle.parameters.proofs.Bounds.{small_bits-within}
use Rattle.lengths.proofs.small_length.Goals as goal
use Rattle.lengths.proofs.small_length.Goals.{After-bits}

product : (c : After-bits) → c.args.set.n * c.bits.result ≤ 4294967295 * 4
product c =
    let n : c.args.set.n ≤ 4294967295 = omega arith in
    let b : c.bits.result ≤ 4 = omega (arith, small_bits-within c.args.set.l) in
    mul-le-mul n b

pub overflow_mul-result : goal.overflow_mul-result
overflow_mul-result c = record { fits = omega (arith, product (goal.at.overflow_mul-result c).After-bits) }

pub overflow_add-result : goal.overflow_add-result
overflow_add-result c = record { fits = omega (arith, product (goal.at.overflow_add-result c).After-bits) }

pub returns : goal.returns
unfolding small_length
returns c = ap (λ (b : ℕ). (c.args.set.n * b + 7) / 8) c.bits.ensures

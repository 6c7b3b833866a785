-- `secret_length` meets its contract: it is two small elements.
-- Assumes nothing.
use Rattle.std.proofs.Common.{ℕ, ◌+◌, ◌≤◌, ap, arith}
use native.Mathlib.Nat.{mul-le-mul}
use Rattle.definitions.specs.Parameters.{small_length, secret_length}
use Rattle.parameters.proofs.Bounds.{small_bits-within}
use Rattle.lengths.proofs.secret_length.Goals as goal

pub overflow_add-result : goal.overflow_add-result
unfolding small_length
overflow_add-result c =
    let n : c.args.set.n ≤ 4294967295 = omega arith in
    record { fits = omega (arith, mul-le-mul n (small_bits-within c.args.set.l).most) }

pub returns : goal.returns
unfolding secret_length
returns c = ap (λ (x : ℕ). x + x) c.small_length-one.ensures

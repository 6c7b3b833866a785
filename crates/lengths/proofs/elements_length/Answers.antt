-- `elements_length` meets its contract: a coefficient has at most 4 octets, so the product is below 2^47.
-- Assumes nothing.
use Rattle.std.proofs.Common.{ℕ, ◌*◌, ◌≤◌, ap, arith}
use native.Mathlib.Nat.{mul-le-mul}
use Rattle.definitions.specs.Parameters.{elements_length}
use Rattle.definitions.proofs.Parameters.{qlen-most}
use Rattle.lengths.proofs.elements_length.Goals as goal

pub overflow_mul-result : goal.overflow_mul-result
overflow_mul-result c =
    let e : c.args.elements ≤ 4096 = omega arith in
    let n : c.args.set.n ≤ 4294967295 = omega arith in
    record { fits = omega (arith, mul-le-mul e n) }

pub overflow_mul-result-2 : goal.overflow_mul-result-2
overflow_mul-result-2 c =
    let e : c.args.elements ≤ 4096 = omega arith in
    let n : c.args.set.n ≤ 4294967295 = omega arith in
    let o : c.octets_of_coefficient.result ≤ 4 = omega (arith, qlen-most) in
    record { fits = omega (arith, mul-le-mul (mul-le-mul e n) o) }

pub returns : goal.returns
unfolding elements_length
returns c = ap (λ (o : ℕ). c.args.elements * c.args.set.n * o) c.octets_of_coefficient.ensures

-- `diagonal_at`: at most twelve elements stand in the list, so the place is small.
-- Assumes nothing.
use Rattle.std.proofs.Common.{◌+◌, ◌≤◌, arith}
use native.Mathlib.Nat.{mul-le-mul}
use Rattle.definitions.proofs.Parameters.{accepted-set, key-degree-most}
use Rattle.definitions.proofs.Monomials.{count-six}
use Rattle.shared_products.proofs.diagonal_at.Goals as goal
use Rattle.shared_products.proofs.diagonal_at.Goals.{After-monomial_count}

-- how many elements stand before it
few : (c : After-monomial_count) → c.monomial_count.result + c.args.i ≤ 12
few c = omega (arith, c.monomial_count.ensures, count-six c.args.p.set.dx (key-degree-most _ (accepted-set _ c.args.p.accepted)), c.requires)

pub monomial_count-requires : goal.monomial_count-requires
monomial_count-requires c = omega (arith, key-degree-most _ (accepted-set _ c.args.p.accepted))

pub overflow_add-result : goal.overflow_add-result
overflow_add-result c = record { fits = omega (arith, few (goal.at.overflow_add-result c).After-monomial_count) }

pub overflow_mul-result : goal.overflow_mul-result
overflow_mul-result c =
    let most : c.args.p.set.n ≤ 4096 = (accepted-set _ c.args.p.accepted).ring_most in
    record { fits = omega (arith, mul-le-mul (few (goal.at.overflow_mul-result c).After-monomial_count) most) }

-- `same_monomial` compares the exponents of x and those of y, as the definition does.
-- Assumes nothing.
use Rattle.std.proofs.Common.{◌+◌, ◌≤◌, arith}
use Rattle.definitions.specs.Monomials.{same_monomial}
use Rattle.monomials.proofs.Table.{exponents_small}
use Rattle.monomials.proofs.same_monomial.Goals as goal
use Rattle.monomials.proofs.same_monomial.Goals.{After-monomial-second}

-- sums of exponents are small
small : (c : After-monomial-second) → c.monomial-first.result.x + c.monomial-first.result.y + (c.monomial-second.result.x + c.monomial-second.result.y) ≤ 4
small c =
    omega (arith, exponents_small c.args.d c.args.i _ c.monomial-first.ensures, exponents_small c.args.e c.args.j _ c.monomial-second.ensures)

pub overflow_add-result : goal.overflow_add-result
overflow_add-result c = record { fits = omega (arith, small (goal.at.overflow_add-result c).After-monomial-second) }

pub overflow_add-result-2 : goal.overflow_add-result-2
overflow_add-result-2 c = record { fits = omega (arith, small (goal.at.overflow_add-result-2 c).After-monomial-second) }

pub returns : goal.returns
unfolding same_monomial
returns c = rw (← c.monomial-first.ensures, ← c.monomial-second.ensures, ← c.monomial-product.ensures)

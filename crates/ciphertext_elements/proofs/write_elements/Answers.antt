-- `write_elements` shares the products only where its tests have shown one degree and room in the list.
-- Assumes nothing.
use Rattle.std.proofs.Common.{◌*◌, ◌≤◌, arith}
use native.Mathlib.Nat.{mul-le-mul}
use Rattle.definitions.proofs.Parameters.{accepted-set, key-degree-most}
use Rattle.definitions.proofs.Monomials.{count-six}
use Rattle.ciphertext_elements.proofs.write_elements.Goals as goal
use Rattle.ciphertext_elements.proofs.write_elements.Goals.{After-monomial_count}

-- a list has room for at most twelve elements
few : (c : After-monomial_count) → 2 * c.monomial_count.result ≤ 12
few c = omega (arith, c.monomial_count.ensures, count-six c.args.p.set.dx (key-degree-most _ (accepted-set _ c.args.p.accepted)))

pub monomial_count-requires : goal.monomial_count-requires
monomial_count-requires c = omega (arith, key-degree-most _ (accepted-set _ c.args.p.accepted))

pub overflow_mul-words : goal.overflow_mul-words
overflow_mul-words c = record { fits = omega (arith, few (goal.at.overflow_mul-words c).After-monomial_count) }

pub overflow_mul-words-2 : goal.overflow_mul-words-2
overflow_mul-words-2 c =
    record { fits = omega (arith, mul-le-mul (few (goal.at.overflow_mul-words-2 c).After-monomial_count) (accepted-set _ c.args.p.accepted).ring_most) }

-- `terms_end` is right because a key has at most five terms but the constant, so that no word of theirs lies past the work words.
-- Assumes nothing.
use Rattle.std.proofs.Common.{ℕ, ◌+◌, ◌-◌, ◌*◌, ◌≤◌, ap, arith}
use native.Mathlib.Nat.{mul-le-mul_right}
use Rattle.definitions.proofs.Parameters.{Accepted, accepted-set, key-degree-most}
use Rattle.definitions.proofs.Monomials.{monomial_count_pos}
use Rattle.parameters.specs.Answers.{set_from}
use Rattle.key_draws.proofs.Words.{others_most}
use Rattle.key_draws.proofs.terms_end.Goals as goal
use Rattle.key_draws.proofs.terms_end.Goals.{After-monomial_count}

set : (c : After-monomial_count) → Accepted (set_from c.args.p)
set c = accepted-set _ c.args.p.accepted

most : (c : After-monomial_count) → (c.monomial_count.result - 1) * c.args.p.set.n ≤ 5 * c.args.p.set.n
most c = mul-le-mul_right _ (rw c.monomial_count.ensures (others_most _ (set c)))

pub monomial_count-requires : goal.monomial_count-requires
monomial_count-requires c = omega (arith, key-degree-most _ (accepted-set (set_from c.args.p) c.args.p.accepted))

pub overflow_sub-result : goal.overflow_sub-result
overflow_sub-result c = rw c.monomial_count.ensures (monomial_count_pos c.args.p.set.dx)

pub overflow_mul-result : goal.overflow_mul-result
overflow_mul-result c =
    let s = (goal.at.overflow_mul-result c).After-monomial_count in record { fits = omega (arith, most s, (set s).ring_most) }

pub overflow_add-result-2 : goal.overflow_add-result-2
overflow_add-result-2 c =
    let s = (goal.at.overflow_add-result-2 c).After-monomial_count in record { fits = omega (arith, most s, (set s).ring_most) }

pub returns : goal.returns
returns c = (
  ap (λ (m : ℕ). c.args.p.set.n + c.args.p.set.n + (m - 1) * c.args.p.set.n) c.monomial_count.ensures,
  omega (arith, most (goal.at.returns c).After-monomial_count),
)

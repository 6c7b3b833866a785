-- 01, "Draws from lent random octets" (zero test), after the length test.
--
--   Tested           the number of the tests, and the answer where it is 0; otherwise the answer as it was
-- Assumes nothing.
use Rattle.std.specs.Prelude.{ℕ, ◌≡◌, cond, List}
use Rattle.definitions.specs.Refusals.{first_refusal}
use Rattle.definitions.specs.Parameters.{Parameters}
use Rattle.definitions.specs.Calls.{secret_x, secret_y, polynomial_from, secret_tests, is_zero_at}

pub record Tested (p : Parameters) (secret public : List ℕ) (refusal old zero : ℕ) : Type 0 where
  pub number : refusal ≡ first_refusal (secret_tests p p.dx secret public)
  pub holds : refusal ≡ 0 → zero ≡ cond (is_zero_at p (polynomial_from p public) (secret_x p secret) (secret_y p secret)) 1 0
  pub kept : (refusal ≡ 0 → ⊥) → zero ≡ old

-- The product of two polynomials in t, with no t^n = 1: what a product in R_q is folded from.
--
--   linear           a_i × b_j goes to the place i + j; both have m coefficients
-- Assumes nothing.
use Rattle.std.specs.Prelude.{ℕ, ◌+◌, ◌*◌}
use Rattle.definitions.specs.Sequences.{sum, same_number}
use Rattle.definitions.specs.Ring.{Element}

unfoldable pub linear : ℕ → Element → Element → Element
linear m a b k = sum m (λ i. a i * sum m (λ j. b j * same_number (i + j) k))

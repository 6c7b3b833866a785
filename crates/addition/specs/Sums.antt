-- 01, "Draws from lent random octets" (adding): the sum of two ciphertexts, coefficient by coefficient.
--
--   Summands         two lists of so many coefficients of qlen octets, each below q
--   coefficient_sums  the coefficients of two lists of octets, added place by place modulo q
-- Assumes nothing.
use Rattle.std.specs.Prelude.{ℕ, ◌+◌, ◌*◌, ◌%◌, ◌≤◌, ◌<◌, ◌≡◌, true, List, length}
use Rattle.definitions.specs.Sequences.{tabulate}
use Rattle.definitions.specs.Octets.{coefficient_at, decoded, coefficients_fit}

pub record Summands (q qlen count : ℕ) (a b : List ℕ) : Type 0 where
  pub least : 1 ≤ qlen
  pub most : qlen ≤ 4
  pub modulus : q < 2147483648
  pub a-length : length a ≡ count * qlen
  pub b-length : length b ≡ count * qlen
  pub a-fits : coefficients_fit q (decoded qlen count a) ≡ true
  pub b-fits : coefficients_fit q (decoded qlen count b) ≡ true

unfoldable pub coefficient_sums : ℕ → ℕ → ℕ → List ℕ → List ℕ → List ℕ
coefficient_sums q qlen count a b = tabulate count (λ m. (coefficient_at qlen a m + coefficient_at qlen b m) % q)

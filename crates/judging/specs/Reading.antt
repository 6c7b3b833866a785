-- 01, "Refusal table", number 8: what reading a coefficient finds, and what a judge of coefficients answers.
--
--   reading_as          01's number and value for each case of reading one: Some x is accepted with x, None refused with 8
--   coefficient_answer  the answer for a number: refused with 8 where it is q or more, otherwise the number
--   coefficient_number  8 where coefficients do not fit, otherwise 0
--   fit_number          8 where some coefficient of a list is q or more, otherwise 0
-- Assumes nothing.
use Rattle.std.specs.Prelude.{ℕ, Bool, not, List, [], ◌∷◌, ltb, Option, Some, None}
use Rattle.definitions.specs.Refusals.{refuse, first_refusal, Answer, accepted, refused, answer}
use Rattle.definitions.specs.Octets.{coefficients_fit}

abbrev pub reading_as : Option ℕ → Answer ℕ
reading_as (Some x) = accepted x
reading_as None = refused 8

unfoldable pub coefficient_answer : ℕ → ℕ → Answer ℕ
coefficient_answer q x = answer [] (refuse 8 (not (ltb x q)) ∷ []) x

abbrev pub coefficient_number : Bool → ℕ
coefficient_number fit = first_refusal (refuse 8 (not fit) ∷ [])

unfoldable pub fit_number : ℕ → List ℕ → ℕ
fit_number q coefficients = coefficient_number (coefficients_fit q coefficients)

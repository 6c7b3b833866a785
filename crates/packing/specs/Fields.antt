-- 01, "Ring, monomials, octets", last paragraph: a group of packed numbers as one number. 8 coefficients of b bits are b octets.
--
--   value_in          the number of some numbers of w bits each, the first lowest
--   fields_of         so many numbers of v bits each, from a number
--   padding_number    7 where a bit from a place on is not zero, otherwise 0 (01, "Refusal table")
-- Assumes nothing.
use Rattle.std.specs.Prelude.{ℕ, ◌+◌, ◌*◌, ◌/◌, ◌%◌, ◌^◌, not, List, [], ◌∷◌}
use Rattle.definitions.specs.Sequences.{tabulate}
use Rattle.definitions.specs.Refusals.{refuse, first_refusal}
use Rattle.definitions.specs.Octets.{padding_clear}

unfoldable pub value_in : ℕ → List ℕ → ℕ
value_in w [] = 0
value_in w (x ∷ xs) = x + 2 ^ w * value_in w xs

unfoldable pub fields_of : ℕ → ℕ → ℕ → List ℕ
fields_of v count x = tabulate count (λ k. x / 2 ^ (k * v) % 2 ^ v)

unfoldable pub padding_number : ℕ → List ℕ → ℕ
padding_number used octets = first_refusal (refuse 7 (not (padding_clear used octets)) ∷ [])

-- 01, "Ring, monomials, octets", last two paragraphs: octets to coefficients and back.
--
--   number_of         the number of some octets, least significant first
--   octets_of         a number as so many octets, least significant first
--   coefficient_at    the coefficient at a place: its qlen octets as a number
--   decoded          so many coefficients from octets; encoded: the octets of coefficients
--   coefficients_fit  whether each coefficient of a list is below q
--   bit_at            bit m of numbers of w bits each, end to end; bit 0 is the lowest of the first
--   regrouped        the same bits as so many numbers of v bits
--   unpacked, packed a small element from octets and back: coefficient i takes b bits, starting at bit i × b
--   padding_clear     whether each bit from a place on is zero (01: unused bits)
-- Assumes nothing.
use Rattle.std.specs.Prelude.{ℕ, zero, suc, ◌+◌, ◌*◌, ◌/◌, ◌%◌, ◌^◌, Bool, ◌||◌, List, [], ◌∷◌, map, eqb, ltb, length, get_or, take, drop}
use Rattle.definitions.specs.Sequences.{sum, every, tabulate, joined}

unfoldable pub number_of : List ℕ → ℕ
number_of [] = 0
number_of (octet ∷ octets) = octet + 256 * number_of octets

unfoldable pub octets_of : ℕ → ℕ → List ℕ
octets_of zero x = []
octets_of (suc len) x = x % 256 ∷ octets_of len (x / 256)

unfoldable pub coefficient_at : ℕ → List ℕ → ℕ → ℕ
coefficient_at len octets m = number_of (take len (drop (m * len) octets))

unfoldable pub decoded : ℕ → ℕ → List ℕ → List ℕ
decoded len count octets = tabulate count (coefficient_at len octets)

unfoldable pub encoded : ℕ → List ℕ → List ℕ
encoded len coefficients = joined (map (octets_of len) coefficients)

unfoldable pub coefficients_fit : ℕ → List ℕ → Bool
coefficients_fit q coefficients = every (length coefficients) (λ m. ltb (get_or coefficients m 0) q)

unfoldable pub bit_at : ℕ → List ℕ → ℕ → ℕ
bit_at w numbers m = get_or numbers (m / w) 0 / 2 ^ (m % w) % 2

unfoldable pub regrouped : ℕ → ℕ → ℕ → List ℕ → List ℕ
regrouped w v count numbers = tabulate count (λ i. sum v (λ j. 2 ^ j * bit_at w numbers (i * v + j)))

unfoldable pub unpacked : ℕ → ℕ → List ℕ → List ℕ
unpacked b n octets = regrouped 8 b n octets

unfoldable pub packed : ℕ → ℕ → List ℕ → List ℕ
packed b len coefficients = regrouped b 8 len coefficients

unfoldable pub padding_clear : ℕ → List ℕ → Bool
padding_clear used octets = every (8 * length octets) (λ m. ltb m used || eqb (bit_at 8 octets m) 0)

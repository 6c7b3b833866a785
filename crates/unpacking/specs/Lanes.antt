-- 01, "Ring, monomials, octets", last paragraph: the coefficients of a group, four at a time. A group has many × b octets, which are one
-- number x, and many × 8 coefficients.
--
--   lanes_of          x, and x shifted by b, 2 b and 3 b bits, so that each has a coefficient in its lowest bits
--   row_of            coefficients 4 j to 4 j + 3 from those four; rows_of: so many rows
--   groups_of         so many groups of many × 8 coefficients, each from the first four words of its place in a list
-- Assumes nothing.
use Rattle.std.specs.Prelude.{ℕ, zero, suc, ◌*◌, ◌/◌, ◌%◌, ◌^◌, List, [], ◌∷◌, ◌++◌, map, take, drop}

unfoldable pub lanes_of : ℕ → ℕ → List ℕ
lanes_of b x = x ∷ x / 2 ^ b ∷ x / 2 ^ (2 * b) ∷ x / 2 ^ (3 * b) ∷ []

unfoldable pub row_of : ℕ → ℕ → List ℕ → List ℕ
row_of b j lanes = map (λ lane. lane / 2 ^ (j * 4 * b) % 2 ^ b) lanes

unfoldable pub rows_of : ℕ → ℕ → List ℕ → List ℕ
rows_of b zero lanes = []
rows_of b (suc j) lanes = rows_of b j lanes ++ row_of b j lanes

unfoldable pub groups_of : ℕ → ℕ → ℕ → List ℕ → List ℕ
groups_of b many zero words = []
groups_of b many (suc g) words = groups_of b many g words ++ rows_of b (many * 2) (take 4 (drop (g * (many * 8)) words))

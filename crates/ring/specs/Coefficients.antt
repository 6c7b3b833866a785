-- 02, Q-4: the sum of two coefficients by sums, differences, products and shifts alone. It is the formula of `ring::sum`.
--
--   shift_sum         a + b, and q taken off where bit 31 of a + b + (2^31 - q) is 1 (a shift by 31 is the quotient by 2^31)
--   ShiftSums        for every q of an accepted set and every pair below q this is the sum modulo q
--   row              what a row says of q, a, b and their sum: a set with this q is accepted, both are below it, and both sides of ShiftSums give the sum
--   rows_of_sums          pairs with the sums q - 1, q, q + 1 and 2 q - 2, at the least q, 2^16 - 1, 2^16, 2^24 and the largest q
-- Assumes nothing.
use Rattle.std.specs.Prelude.{ℕ, ◌+◌, ◌-◌, ◌*◌, ◌/◌, ◌%◌, ◌<◌, ◌≡◌, List, [], ◌∷◌}
use Rattle.definitions.specs.Refusals.{first_refusal}
use Rattle.definitions.specs.Parameters.{Parameters, set_tests}
use Rattle.definitions.specs.Demand3.{AcceptedSet}
use Rattle.definitions.specs.WorkedCases.{Row, least_bound_set}

unfoldable pub shift_sum : ℕ → ℕ → ℕ → ℕ
shift_sum q a b = a + b - q * ((a + b + (2147483648 - q)) / 2147483648)

abbrev pub ShiftSums : Type 0
ShiftSums = (p : Parameters) → AcceptedSet p → (a b : ℕ) → a < p.q → b < p.q → shift_sum p.q a b ≡ (a + b) % p.q

-- ---- the table

row : ℕ → ℕ → ℕ → ℕ → Row
row q a b sum =
    record {
      given = first_refusal (set_tests (least_bound_set q)) ∷ a % q ∷ b % q ∷ shift_sum q a b ∷ (a + b) % q ∷ [];
      expected = 0 ∷ a ∷ b ∷ sum ∷ sum ∷ [];
    }

unfoldable pub rows_of_sums : List Row
unfolding row
rows_of_sums =
    row 36 35 0 35
    ∷ row 36 35 1 0
    ∷ row 36 18 18 0
    ∷ row 36 35 2 1
    ∷ row 36 35 35 34
    ∷ row 65535 32767 32767 65534
    ∷ row 65535 32768 32767 0
    ∷ row 65535 65534 2 1
    ∷ row 65535 65534 65534 65533
    ∷ row 65536 32768 32767 65535
    ∷ row 65536 32768 32768 0
    ∷ row 65536 65535 2 1
    ∷ row 65536 65535 65535 65534
    ∷ row 16777216 8388608 8388607 16777215
    ∷ row 16777216 8388608 8388608 0
    ∷ row 16777216 16777215 2 1
    ∷ row 16777216 16777215 16777215 16777214
    ∷ row 2147483647 1073741823 1073741823 2147483646
    ∷ row 2147483647 2147483646 1 0
    ∷ row 2147483647 1073741824 1073741823 0
    ∷ row 2147483647 2147483646 2 1
    ∷ row 2147483647 2147483646 2147483646 2147483645
    ∷ []

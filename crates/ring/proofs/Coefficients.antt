-- Sums and differences of two coefficients by shifts: bit 31 of s + (2^31 - q) is 1 just where s is q or more, and bit 31 of a + (2^31 - b)
-- just where a is b or more.
--
--   bit_product_le, -fits   q times bit 31 of a word is at most q, and so a word;  -covered: at most s, where the bit is 1 only if s is q or more
--   bit_modulo       s less q times a bit that is 1 just where s is q or more is s modulo q, for s below 2 q
--   shift_sum-modulo  the sum is a + b modulo q, for every q below 2^31;  shift_sums: so for every accepted set
--   difference_covered, -modulo   the difference, which adds q where its bit is 0, is a + (q - b) modulo q;  -covered: what it takes b from is at least b
--   sum_rows         every row of the table holds
-- Assumes nothing.
use Prim.Native.Nat.{ℕ, ◌+◌, ◌-◌, ◌*◌, ◌/◌, ◌%◌, ◌≤◌, ◌<◌}
use native.Mathlib.Nat.{mod-eq_of_lt, mod-eq-sub-mod}
use native.Mathlib.Decide.{dec_lt}
use native.Mathlib.Omega.{arith}
use mathlib.Core.Path.{◌≡◌, refl, ◌∙◌}
use mathlib.Core.List.{map}
use Rattle.definitions.specs.Sequences.{sum}
use Rattle.definitions.specs.Refusals.{first_refusal}
use Rattle.definitions.specs.WorkedCases.{Row}
use Rattle.definitions.specs.Parameters.{small_bits, term_sum, bound, range_fits, ring_fits, degree_fits, modulus_fits, message_fits, edition_fits, set_tests}
use Rattle.definitions.proofs.Parameters.{accepted-set}
use Rattle.ring.specs.Coefficients.{shift_sum, ShiftSums, rows_of_sums}

-- a product with the bit, by the two cases of the bit
bit_product : (q : ℕ) {x : ℕ} (limit : ℕ) → x < 4294967296 → (2147483648 ≤ x → q ≤ limit) → q * (x / 2147483648) ≤ limit
bit_product q {x} limit word most =
    elim (dec_lt x 2147483648) [
      | yes l ↦ let bit : x / 2147483648 ≡ 0 = omega arith in rw bit (omega arith)
      | no g ↦ let bit : x / 2147483648 ≡ 1 = omega arith in rw bit (omega (arith, most (omega arith)))
    ]

pub bit_product_le : (q : ℕ) {x : ℕ} → x < 4294967296 → q * (x / 2147483648) ≤ q
bit_product_le q word = bit_product q q word (λ g. omega arith)

pub bit_product_fits : (q : ℕ) {x : ℕ} → x < 4294967296 → q < 2147483648 → q * (x / 2147483648) < 4294967296
bit_product_fits q word l = omega (arith, bit_product_le q word)

pub bit_product_covered : (q s : ℕ) {x : ℕ} → x < 4294967296 → x ≤ s + (2147483648 - q) → q ≤ 2147483648 → q * (x / 2147483648) ≤ s
bit_product_covered q s word most l = bit_product q s word (λ g. omega arith)

bit_modulo : (q s : ℕ) {x : ℕ} → s < q + q → x < 4294967296 → (q ≤ s → 2147483648 ≤ x) → (s < q → x < 2147483648) → s - q * (x / 2147483648) ≡ s % q
bit_modulo q s {x} most word high low =
    elim (dec_lt s q) [
      | yes l ↦ let bit : x / 2147483648 ≡ 0 = omega (arith, low l) in rw bit (omega (arith, mod-eq_of_lt l))
      | no g ↦
          let bit : x / 2147483648 ≡ 1 = omega (arith, high (omega arith)) in
          let off : s % q ≡ s - q = mod-eq-sub-mod (omega arith) ∙ mod-eq_of_lt (omega arith) in
          rw bit (omega (arith, off))
    ]

-- ---- the sum

pub shift_sum-modulo : (q a b : ℕ) → a < q → b < q → q < 2147483648 → shift_sum q a b ≡ (a + b) % q
unfolding shift_sum
shift_sum-modulo q a b h g l = bit_modulo q (a + b) (omega arith) (omega arith) (λ s. omega arith) (λ s. omega arith)

pub shift_sums : ShiftSums
shift_sums p set a b h g = shift_sum-modulo p.q a b h g (omega (arith, (accepted-set p set).modulus-most))

-- ---- the difference

pub difference_covered : (q a b : ℕ) {x : ℕ} → x < 4294967296 → x ≤ a + (2147483648 - b) → b ≤ q → q ≤ 2147483648 → b ≤ a + (q - q * (x / 2147483648))
difference_covered q a b word most h l =
    omega (arith, bit_product q (a + q - b) word (λ g. omega arith), bit_product_le q word)

pub difference_modulo : (q a b : ℕ) → a < q → b < q → q < 2147483648
    → a + (q - q * ((a + (2147483648 - b)) / 2147483648)) - b ≡ (a + (q - b)) % q
difference_modulo q a b h g l =
    let s = a + (q - b) in
    let bit = (a + (2147483648 - b)) / 2147483648 in
    let most : q * bit ≤ q = bit_product_le q (omega arith) in
    let once : s - q * bit ≡ s % q = bit_modulo q s (omega arith) (omega arith) (λ g. omega arith) (λ g. omega arith) in
    omega (arith, most, once)

-- ---- the rows

pub sum_rows : map (λ (r : Row). r.given) rows_of_sums ≡ map (λ (r : Row). r.expected) rows_of_sums
unfolding rows_of_sums shift_sum first_refusal sum small_bits term_sum bound range_fits ring_fits degree_fits modulus_fits message_fits edition_fits set_tests
sum_rows = refl

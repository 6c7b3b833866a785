-- Why packing loses nothing, with the widths as variables: both lists have the same bits in the same places, and numbers of w bits are their bits.
--
--   binary            the number whose bits are given, bit 0 first
--   bit_at-..          the bits of a regrouped list are those of the list, and 0 past its end
--   ZeroFrom          the numbers of a list are 0 from a place on
--   regrouped-..      a list regrouped and back;  unpacked-.., packed-..: the same for small elements and messages
--   padding_clear-..   what the test of the unused bits says
-- Assumes nothing.
use Prim.Native.Nat.{ℕ, zero, suc, ◌+◌, ◌*◌, ◌/◌, ◌%◌, ◌^◌, ◌≤◌, ◌<◌}
use mathlib.Core.Path.{◌≡◌, sym, ap, ◌∙◌}
use mathlib.Core.Bool.{true, ◌||◌}
use mathlib.Core.List.{List}
use native.Mathlib.Nat.{mul-zero, pow-succ', div-div-eq-div-mul, div-one, mod-lt, div-lt_iff_lt-mul, le-div_iff_mul-le, div-add-mod', zero-div}
use native.Mathlib.Nat.{le_of_suc-le-suc}
use native.Mathlib.Decide.{dec_lt}
use native.Mathlib.Omega.{arith}
use borrow.Author.Tests.{le-ltb, eqb-true, eq-eqb, lt-ltb}
use lib.Dec.{ltb, eqb}
use lib.Arith.{digits_lt, digits_div, digits_mod}
use lib.ListN.{length, get_or, get_or-eq_default}
use lib.Seq.{ext_get_or}
use Rattle.definitions.specs.Sequences.{sum}
use Rattle.definitions.specs.Octets.{bit_at, regrouped, unpacked, packed, padding_clear}
use Rattle.definitions.proofs.Sums.{sum_cong, sum-zero, every_true, every_at, length-tabulate, get_or_tabulate, tabulate_cong}
use Rattle.definitions.proofs.Octets.{AllBelow}

-- ---- a number and its bits

abbrev pub binary : ℕ → (ℕ → ℕ) → ℕ
binary v f = sum v (λ j. 2 ^ j * f j)

binary_cons : (v : ℕ) (f : ℕ → ℕ) → binary (suc v) f ≡ f 0 + 2 * binary v (λ j. f (suc j))
unfolding sum
binary_cons zero f = omega arith
binary_cons (suc v) f = rw (pow-succ' 2 v) (omega (arith, binary_cons v f))

div-pow-suc : (x j : ℕ) → x / 2 ^ suc j ≡ x / 2 / 2 ^ j
div-pow-suc x j = rw (pow-succ' 2 j) (sym (div-div-eq-div-mul x 2 (2 ^ j)))

pub binary_below : (v : ℕ) (f : ℕ → ℕ) → ((j : ℕ) → f j < 2) → binary v f < 2 ^ v
binary_below zero f h = unfold sum in omega arith
binary_below (suc v) f h = omega (arith, binary_cons v f, binary_below v (λ j. f (suc j)) (λ j. h (suc j)), h 0)

pub binary_digit : (v : ℕ) (f : ℕ → ℕ) → ((j : ℕ) → f j < 2) → (k : ℕ) → k < v → binary v f / 2 ^ k % 2 ≡ f k
binary_digit zero f h k l = let z : ⊥ = omega arith in absurd z
binary_digit (suc v) f h zero l = rw (div-one (binary (suc v) f)) (omega (arith, binary_cons v f, h 0))
binary_digit (suc v) f h (suc k) l =
    let e : binary (suc v) f / 2 ≡ binary v (λ j. f (suc j)) = omega (arith, binary_cons v f, h 0) in
    rw (div-pow-suc (binary (suc v) f) k, e) (binary_digit v (λ j. f (suc j)) (λ j. h (suc j)) k (le_of_suc-le-suc l))

-- a number of w bits is its bits
pub binary_bits : (w x : ℕ) → x < 2 ^ w → binary w (λ j. x / 2 ^ j % 2) ≡ x
binary_bits zero x h = unfold sum in omega arith
binary_bits (suc w) x h =
    let half : x / 2 < 2 ^ w = omega arith in
    let rest : binary w (λ j. x / 2 ^ suc j % 2) ≡ x / 2 = sum_cong w (λ j l. rw (div-pow-suc x j)) ∙ binary_bits w (x / 2) half in
    let low : x / 2 ^ 0 ≡ x = div-one x in
    omega (arith, binary_cons w (λ j. x / 2 ^ j % 2))

-- ---- the bits of a list

pub bit_at-below : (w : ℕ) (numbers : List ℕ) (m : ℕ) → bit_at w numbers m < 2
unfolding bit_at
bit_at-below w numbers m = omega arith

pub bit_at_digit : (w : ℕ) (numbers : List ℕ) (i : ℕ) {j : ℕ} → j < w → bit_at w numbers (i * w + j) ≡ get_or numbers i 0 / 2 ^ j % 2
unfolding bit_at
bit_at_digit w numbers i h = rw (digits_div i h, digits_mod i h)

-- the bit of a number that is known
bit_at_of : (w : ℕ) (numbers : List ℕ) (m : ℕ) {x : ℕ} → get_or numbers (m / w) 0 ≡ x → bit_at w numbers m ≡ x / 2 ^ (m % w) % 2
unfolding bit_at
bit_at_of w numbers m e = rw e

abbrev pub ZeroFrom : ℕ → List ℕ → Type 0
ZeroFrom c numbers = (k : ℕ) → c ≤ k → get_or numbers k 0 ≡ 0

pub bit_at_zero_from : (w c : ℕ) (numbers : List ℕ) (m : ℕ) → 0 < w → ZeroFrom c numbers → c * w ≤ m → bit_at w numbers m ≡ 0
bit_at_zero_from w c numbers m pos h l =
    bit_at_of w numbers m (h (m / w) ((le-div_iff_mul-le pos).1 l)) ∙ ap (λ (x : ℕ). x % 2) (zero-div (2 ^ (m % w)))

pub zero_from_length : (numbers : List ℕ) → ZeroFrom (length numbers) numbers
zero_from_length numbers k l = get_or-eq_default numbers 0 l

pub bit_at_outside : (w : ℕ) (numbers : List ℕ) (m : ℕ) → 0 < w → length numbers * w ≤ m → bit_at w numbers m ≡ 0
bit_at_outside w numbers m pos l = bit_at_zero_from w (length numbers) numbers m pos (zero_from_length numbers) l

-- ---- a list regrouped

pub length-regrouped : (w v count : ℕ) (numbers : List ℕ) → length (regrouped w v count numbers) ≡ count
unfolding regrouped
length-regrouped w v count numbers = length-tabulate count _

pub get_or-regrouped : (w v count : ℕ) (numbers : List ℕ) {i : ℕ} → i < count
    → get_or (regrouped w v count numbers) i 0 ≡ binary v (λ j. bit_at w numbers (i * v + j))
unfolding regrouped
get_or-regrouped w v count numbers l = get_or_tabulate count _ 0 l

pub regrouped-below : (w v count : ℕ) (numbers : List ℕ) → AllBelow (2 ^ v) (regrouped w v count numbers)
regrouped-below w v count numbers i l =
    let inside : i < count = omega (arith, length-regrouped w v count numbers) in
    rw (get_or-regrouped w v count numbers inside) (binary_below v (λ j. bit_at w numbers (i * v + j)) (λ j. bit_at-below w numbers (i * v + j)))

pub bit_at-regrouped : (w v count : ℕ) (numbers : List ℕ) (m : ℕ) → 0 < v → m < count * v
    → bit_at v (regrouped w v count numbers) m ≡ bit_at w numbers m
bit_at-regrouped w v count numbers m pos l =
    let inside : m / v < count = (div-lt_iff_lt-mul pos).1 l in
    bit_at_of v (regrouped w v count numbers) m (get_or-regrouped w v count numbers inside)
    ∙ binary_digit v (λ j. bit_at w numbers (m / v * v + j)) (λ j. bit_at-below w numbers (m / v * v + j)) (m % v) (mod-lt m pos)
    ∙ ap (bit_at w numbers) (div-add-mod' m v)

pub bit_at-regrouped_outside : (w v count : ℕ) (numbers : List ℕ) (m : ℕ) → 0 < v → count * v ≤ m
    → bit_at v (regrouped w v count numbers) m ≡ 0
bit_at-regrouped_outside w v count numbers m pos l =
    bit_at_outside v (regrouped w v count numbers) m pos (rw (length-regrouped w v count numbers) l)

-- two lists with the same bits are regrouped alike
pub regrouped_cong : (w w' v count : ℕ) (xs ys : List ℕ) → ((m : ℕ) → m < count * v → bit_at w xs m ≡ bit_at w' ys m)
    → regrouped w v count xs ≡ regrouped w' v count ys
unfolding regrouped
regrouped_cong w w' v count xs ys h =
    tabulate_cong count (λ i l. sum_cong v (λ j s. ap (λ (x : ℕ). 2 ^ j * x) (h (i * v + j) (digits_lt l s))))

pub regrouped_self : (w : ℕ) (numbers : List ℕ) → AllBelow (2 ^ w) numbers → regrouped w w (length numbers) numbers ≡ numbers
regrouped_self w numbers h =
    ext_get_or 0 _ _ (length-regrouped w w (length numbers) numbers)
    (λ i l. let inside : i < length numbers = omega (arith, length-regrouped w w (length numbers) numbers) in
    get_or-regrouped w w (length numbers) numbers inside
    ∙ sum_cong w (λ j s. ap (λ (x : ℕ). 2 ^ j * x) (bit_at_digit w numbers i s))
    ∙ binary_bits w (get_or numbers i 0) (h i inside))

-- there and back: nothing is lost where the bits that had no room are 0
pub regrouped-regrouped : (w v count : ℕ) (numbers : List ℕ) → 0 < v → AllBelow (2 ^ w) numbers
    → ((m : ℕ) → count * v ≤ m → m < length numbers * w → bit_at w numbers m ≡ 0)
    → regrouped v w (length numbers) (regrouped w v count numbers) ≡ numbers
regrouped-regrouped w v count numbers pos h clear =
    regrouped_cong v w w (length numbers) (regrouped w v count numbers) numbers
    (λ m l. elim (dec_lt m (count * v)) [
      | yes s ↦ bit_at-regrouped w v count numbers m pos s
      | no g ↦ let past : count * v ≤ m = omega arith in bit_at-regrouped_outside w v count numbers m pos past ∙ sym (clear m past l)
    ])
    ∙ regrouped_self w numbers h

-- ---- the test of the unused bits

pub padding_clear_at : (used : ℕ) (octets : List ℕ) (m : ℕ) → padding_clear used octets ≡ true → used ≤ m → bit_at 8 octets m ≡ 0
unfolding padding_clear
padding_clear_at used octets m e l =
    elim (dec_lt m (8 * length octets)) [
      | yes s ↦ eqb-true (bit_at 8 octets m) 0
          (rw (le-ltb m used l) at (every_at (8 * length octets) (λ m. ltb m used || eqb (bit_at 8 octets m) 0) e s))
      | no g ↦ bit_at_outside 8 octets m (omega arith) (omega arith)
    ]

pub padding_clear_true : (used : ℕ) (octets : List ℕ) → ((m : ℕ) → used ≤ m → m < 8 * length octets → bit_at 8 octets m ≡ 0)
    → padding_clear used octets ≡ true
unfolding padding_clear
padding_clear_true used octets h =
    every_true (8 * length octets) (λ m s. elim (dec_lt m used) [
      | yes l ↦ rw (lt-ltb m used l)
      | no g ↦ let past : used ≤ m = omega arith in rw (le-ltb m used past) (eq-eqb (bit_at 8 octets m) 0 (h m past s))
    ])

-- ---- small elements and messages

pub length-unpacked : (b n : ℕ) (octets : List ℕ) → length (unpacked b n octets) ≡ n
unfolding unpacked
length-unpacked b n octets = length-regrouped 8 b n octets

pub length-packed : (b octets : ℕ) (coefficients : List ℕ) → length (packed b octets coefficients) ≡ octets
unfolding packed
length-packed b octets coefficients = length-regrouped b 8 octets coefficients

pub unpacked-below : (b n : ℕ) (octets : List ℕ) → AllBelow (2 ^ b) (unpacked b n octets)
unfolding unpacked
unpacked-below b n octets = regrouped-below 8 b n octets

-- the bits past the last coefficient are 0
pub padding_clear-packed_zero_from : (b c octets : ℕ) (coefficients : List ℕ) → 0 < b → ZeroFrom c coefficients
    → padding_clear (c * b) (packed b octets coefficients) ≡ true
unfolding packed
padding_clear-packed_zero_from b c octets coefficients pos tail =
    padding_clear_true (c * b) (regrouped b 8 octets coefficients)
    (λ m l s. let inside : m < octets * 8 = omega (arith, length-regrouped b 8 octets coefficients) in
    bit_at-regrouped b 8 octets coefficients m (omega arith) inside ∙ bit_at_zero_from b c coefficients m pos tail l)

module _ (b n octets : ℕ) (coefficients : List ℕ) (pos : 0 < b) (len : length coefficients ≡ n) where
  -- where c coefficients have room, and those from place c on are 0: a message of c × b bits
  pub unpacked-packed_zero_from : (c : ℕ) → ZeroFrom c coefficients → c * b ≤ 8 * octets → AllBelow (2 ^ b) coefficients
      → unpacked b n (packed b octets coefficients) ≡ coefficients
  unfolding unpacked packed
  unpacked-packed_zero_from c tail room h =
      rw len at (regrouped-regrouped b 8 octets coefficients (omega arith) h
      (λ m l s. bit_at_zero_from b c coefficients m pos tail (omega arith)))

  pub unpacked-packed : n * b ≤ 8 * octets → AllBelow (2 ^ b) coefficients → unpacked b n (packed b octets coefficients) ≡ coefficients
  unpacked-packed room h = unpacked-packed_zero_from n (rw len at (zero_from_length coefficients)) room h

  pub padding_clear-packed : padding_clear (n * b) (packed b octets coefficients) ≡ true
  padding_clear-packed = padding_clear-packed_zero_from b n octets coefficients pos (rw len at (zero_from_length coefficients))

-- for an element used is n × b, for a message mlen
pub packed-unpacked : (b n used : ℕ) (octets : List ℕ) → 0 < b → used ≤ n * b → AllBelow 256 octets → padding_clear used octets ≡ true
    → packed b (length octets) (unpacked b n octets) ≡ octets
unfolding packed unpacked
packed-unpacked b n used octets pos room h clear =
    regrouped-regrouped 8 b n octets pos h (λ m l s. padding_clear_at used octets m clear (omega arith))

-- the coefficients past the bits of a message are 0
pub unpacked-tail : (b n used : ℕ) (octets : List ℕ) (k : ℕ) → padding_clear used octets ≡ true → used ≤ k * b
    → get_or (unpacked b n octets) k 0 ≡ 0
unfolding unpacked
unpacked-tail b n used octets k clear l =
    elim (dec_lt k n) [
      | yes s ↦ get_or-regrouped 8 b n octets s
          ∙ sum-zero b (λ j t. ap (λ (x : ℕ). 2 ^ j * x) (padding_clear_at used octets (k * b + j) clear (omega arith)) ∙ mul-zero (2 ^ j))
      | no g ↦ get_or-eq_default (regrouped 8 b n octets) 0 (omega (arith, length-regrouped 8 b n octets))
    ]

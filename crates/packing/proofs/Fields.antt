-- Why a group of packed numbers may be read as one number: the bits of the number are the bits of the group, whatever the widths.
--
--   value-..         the number of some numbers of w bits: its bits, its bound, one number more
--   field_bits       some bits of a number, as a number
--   bit_at-part       the bits of a part of a list
--   octets_of_fields  octets are numbers of 8 bits from a number
--   regrouped-add    a list regrouped, then so many places more, from the number of a group
--   regrouped_group  one group more: so many numbers of w bits, that are so many places of v bits
--   regrouped_parts  whole groups, a last one that may be short, and zeros
--   lent, given_rest  a part as code lends it; the rest of a list lent and given back;  filled: zeros filled in from a place on
-- Assumes nothing.
use Prim.Native.Nat.{ℕ, zero, suc, ◌+◌, ◌-◌, ◌*◌, ◌/◌, ◌%◌, ◌^◌, ◌≤◌, ◌<◌, min}
use mathlib.Core.Path.{◌≡◌, refl, sym, ap, ap₂, ◌∙◌}
use mathlib.Core.List.{List, [], ◌∷◌, ◌++◌, append-nil}
use native.Mathlib.Nat.{zero-add, add_comm, mul_assoc, zero-mul, suc-mul, zero-div, div-one, div-eq_of_lt, div-add-mod', mod-lt, pow-suc, mul-zero}
use native.Mathlib.Nat.{add-mul-div_left, mul-add-div_right, add-mul-mod_self_right, mul-le-mul_left, mul-le-mul_right, div-lt_iff_lt-mul, le-div_iff_mul-le}
use native.Mathlib.Nat.{le_trans, le_of_lt}
use native.Mathlib.Decide.{dec_lt}
use native.Mathlib.Omega.{arith}
use lib.Arith.{digits_lt}
use lib.Pow.{pow_pos, pow-add, shr-shr, field, mod-mod-pow}
use lib.ListN.{length, get_or, take, drop, length-drop, drop_of_length-le, replicate}
use lib.Seq.{get_or-take, get_or-drop, take_all, drop-drop, length-take-le}
use borrow.Rule.Slice.PartMut.{put_mid}
use Rattle.definitions.specs.Sequences.{tabulate}
use Rattle.definitions.specs.Octets.{number_of, octets_of, bit_at, regrouped}
use Rattle.definitions.proofs.Sums.{sum_cong, sum-zero, tabulate_cong}
use Rattle.definitions.proofs.Filling.{tabulate-add, tabulate_const}
use Rattle.definitions.proofs.Octets.{AllBelow, below_head, below-tail, below-take, below-drop}
use Rattle.definitions.proofs.Packing.{binary, binary_bits, bit_at_outside}
use Rattle.encoding.proofs.Laws.{stored, take_stored}
use Rattle.packing.specs.Fields.{value_in, fields_of}
use Rattle.packing.proofs.Groups.{Group, groups-within}

-- ---- bits of a number

low_bit : (v y : ℕ) {j : ℕ} → j < v → y % 2 ^ v / 2 ^ j % 2 ≡ y / 2 ^ j % 2
low_bit v y {j} l =
    let split : v ≡ (v - suc j + 1) + j = omega arith in
    rw (split, field y (v - suc j + 1) j) (mod-mod-pow (y / 2 ^ j) (v - suc j) 1)

pub field_bits : (v m x : ℕ) → x / 2 ^ m % 2 ^ v ≡ binary v (λ j. x / 2 ^ (m + j) % 2)
field_bits v m x =
    sym (binary_bits v (x / 2 ^ m % 2 ^ v) (mod-lt (x / 2 ^ m) (pow_pos v)))
    ∙ sum_cong v (λ j l. ap (λ (y : ℕ). 2 ^ j * y) (low_bit v (x / 2 ^ m) l ∙ ap (λ (y : ℕ). y % 2) (shr-shr x m j)))

-- ---- the number of some numbers

module _ (w : ℕ) where
  pub weight_suc : (k : ℕ) → 2 ^ (suc k * w) ≡ 2 ^ w * 2 ^ (k * w)
  weight_suc k = ap (λ (e : ℕ). 2 ^ e) (suc-mul k w ∙ add_comm (k * w) w) ∙ pow-add 2 w (k * w)

  value-high : (x k : ℕ) (xs : List ℕ) → x < 2 ^ w → value_in w (x ∷ xs) / 2 ^ (w + k) ≡ value_in w xs / 2 ^ k
  unfolding value_in
  value-high x k xs h =
      let e : (x + 2 ^ w * value_in w xs) / 2 ^ w ≡ value_in w xs
      = add-mul-div_left x (value_in w xs) (pow_pos w) ∙ rw (div-eq_of_lt h) (zero-add (value_in w xs)) in
      sym (shr-shr (x + 2 ^ w * value_in w xs) w k) ∙ ap (λ (y : ℕ). y / 2 ^ k) e

  value_low : (x : ℕ) (xs : List ℕ) {j : ℕ} → j < w → value_in w (x ∷ xs) / 2 ^ j % 2 ≡ x / 2 ^ j % 2
  unfolding value_in
  value_low x xs {j} l =
      let split : 2 ^ w ≡ 2 ^ j * (2 ^ (w - suc j) * 2)
      = ap (λ (k : ℕ). 2 ^ k) (omega arith) ∙ pow-add 2 j (suc (w - suc j)) ∙ ap (λ (y : ℕ). 2 ^ j * y) (pow-suc 2 (w - suc j)) in
      let e : (x + 2 ^ w * value_in w xs) / 2 ^ j ≡ x / 2 ^ j + 2 ^ (w - suc j) * 2 * value_in w xs
      = rw (split, mul_assoc (2 ^ j) (2 ^ (w - suc j) * 2) (value_in w xs)) (add-mul-div_left x (2 ^ (w - suc j) * 2 * value_in w xs) (pow_pos j)) in
      rw e (omega arith)

  value_digit : (xs : List ℕ) → AllBelow (2 ^ w) xs → (i : ℕ) {j : ℕ} → j < w → value_in w xs / 2 ^ (i * w + j) % 2 ≡ get_or xs i 0 / 2 ^ j % 2
  value_digit [] h i {j} l = unfold value_in in rw (zero-div (2 ^ (i * w + j)), zero-div (2 ^ j))
  value_digit (x ∷ xs) h zero l = rw (zero-mul w, zero-add) (value_low x xs l)
  value_digit (x ∷ xs) h (suc i) {j} l =
      let e : suc i * w + j ≡ w + (i * w + j) = omega (arith, suc-mul i w) in
      rw (e, value-high x (i * w + j) xs (below_head (2 ^ w) x xs h)) (value_digit xs (below-tail (2 ^ w) x xs h) i l)

  pub value_bit : (xs : List ℕ) → AllBelow (2 ^ w) xs → 0 < w → (m : ℕ) → value_in w xs / 2 ^ m % 2 ≡ bit_at w xs m
  unfolding bit_at
  value_bit xs h pos m =
      ap (λ (k : ℕ). value_in w xs / 2 ^ k % 2) (sym (div-add-mod' m w)) ∙ value_digit xs h (m / w) (mod-lt m pos)

  pub value-below : (xs : List ℕ) → AllBelow (2 ^ w) xs → value_in w xs < 2 ^ (length xs * w)
  unfolding value_in
  value-below [] h = rw (zero-mul w) (omega arith)
  value-below (x ∷ xs) h =
      rw (weight_suc (length xs)) (omega (arith, below_head (2 ^ w) x xs h, mul-le-mul_left (2 ^ w) (value-below xs (below-tail (2 ^ w) x xs h))))

  pub value_snoc : (xs : List ℕ) (y : ℕ) → value_in w (xs ++ (y ∷ [])) ≡ value_in w xs + 2 ^ (length xs * w) * y
  unfolding value_in
  value_snoc [] y = rw (zero-mul w) (omega arith)
  value_snoc (x ∷ xs) y = rw (weight_suc (length xs), value_snoc xs y) (omega arith)

pub number_of-value : (octets : List ℕ) → number_of octets ≡ value_in 8 octets
unfolding number_of value_in
number_of-value [] = refl
number_of-value (x ∷ octets) = ap (λ (y : ℕ). x + 256 * y) (number_of-value octets)

-- ---- numbers from a number

pub octets_of_fields : (len x : ℕ) → octets_of len x ≡ fields_of 8 len x
unfolding octets_of fields_of tabulate
octets_of_fields zero x = refl
octets_of_fields (suc len) x =
    ap₂ ◌∷◌ (rw (div-one x))
    (octets_of_fields len (x / 256)
    ∙ tabulate_cong len (λ k l. ap (λ (y : ℕ). y % 256) (shr-shr x 8 (k * 8) ∙ ap (λ (e : ℕ). x / 2 ^ e) (omega (arith, suc-mul k 8)))))

-- ---- the bits of a part

module _ (w : ℕ) (numbers : List ℕ) (pos : 0 < w) (a c : ℕ) where
  bit_at-drop : (t : ℕ) → bit_at w (drop a numbers) t ≡ bit_at w numbers (a * w + t)
  unfolding bit_at
  bit_at-drop t =
      let place : (a * w + t) / w ≡ a + t / w = mul-add-div_right pos a t in
      let bit : (a * w + t) % w ≡ t % w = ap (λ (k : ℕ). k % w) (add_comm (a * w) t) ∙ add-mul-mod_self_right t a w in
      rw (place, bit, get_or-drop a numbers (t / w) 0)

  pub bit_at-part : (t : ℕ) → t < c * w → bit_at w (take c (drop a numbers)) t ≡ bit_at w numbers (a * w + t)
  bit_at-part t l = inner ∙ bit_at-drop t
    where
      inner : bit_at w (take c (drop a numbers)) t ≡ bit_at w (drop a numbers) t
      inner = unfold bit_at in rw (get_or-take c (drop a numbers) (t / w) 0 ((div-lt_iff_lt-mul pos).1 l))

  -- a part that reaches the end
  pub bit_at_rest : length numbers ≤ a + c → (t : ℕ) → bit_at w (take c (drop a numbers)) t ≡ bit_at w numbers (a * w + t)
  bit_at_rest l t = rw (take_all c (drop a numbers) (omega (arith, length-drop a numbers))) (bit_at-drop t)

-- ---- a list regrouped

-- the bit where a group starts
group_start : {w v places many : ℕ} → Group w v places many → (g : ℕ) → g * many * w ≡ g * places * v
group_start {w} {v} {places} {many} group g = mul_assoc g many w ∙ ap (λ (k : ℕ). g * k) group.same_bits ∙ sym (mul_assoc g places v)

-- the places from i on are the fields of the numbers from a on, where both start at one bit and the part has all the bits
pub regrouped-add : (w v : ℕ) (numbers : List ℕ) (a c i count : ℕ) → 0 < w → AllBelow (2 ^ w) numbers → a * w ≡ i * v
    → ((t : ℕ) → t < count * v → bit_at w (take c (drop a numbers)) t ≡ bit_at w numbers (a * w + t))
    → regrouped w v (i + count) numbers ≡ regrouped w v i numbers ++ fields_of v count (value_in w (take c (drop a numbers)))
unfolding regrouped fields_of
regrouped-add w v numbers a c i count pos below start same =
    tabulate-add i count (λ i. binary v (λ j. bit_at w numbers (i * v + j)))
    ∙ ap (λ (r : List ℕ). tabulate i (λ i. binary v (λ j. bit_at w numbers (i * v + j))) ++ r) (tabulate_cong count (λ k l. sym (one k l)))
  where
    part : List ℕ
    part = take c (drop a numbers)

    one : (k : ℕ) → k < count → value_in w part / 2 ^ (k * v) % 2 ^ v ≡ binary v (λ j. bit_at w numbers ((i + k) * v + j))
    one k l =
        field_bits v (k * v) (value_in w part)
        ∙ sum_cong v (λ j s. ap (λ (y : ℕ). 2 ^ j * y)
        (value_bit w part (below-take (2 ^ w) c (drop a numbers) (below-drop (2 ^ w) a numbers below)) pos (k * v + j)
        ∙ same (k * v + j) (digits_lt l s)
        ∙ ap (bit_at w numbers) (rw (start) (omega arith))))

-- a group more
pub regrouped_group : {w v places many : ℕ} → Group w v places many → (numbers : List ℕ) (g : ℕ) → AllBelow (2 ^ w) numbers
    → regrouped w v (g * places + places) numbers
    ≡ regrouped w v (g * places) numbers ++ fields_of v places (value_in w (take many (drop (g * many) numbers)))
regrouped_group {w} {v} {places} {many} group numbers g below =
    regrouped-add w v numbers (g * many) many (g * places) places group.some_bits below (group_start group g)
    (λ t l. bit_at-part w numbers group.some_bits (g * many) many t (rw group.same_bits l))

-- the places past the last bit are zero
pub regrouped_zeros : (w v : ℕ) (numbers : List ℕ) (i count : ℕ) → 0 < w → length numbers * w ≤ i * v
    → regrouped w v (i + count) numbers ≡ regrouped w v i numbers ++ replicate count 0
unfolding regrouped
regrouped_zeros w v numbers i count pos past =
    tabulate-add i count (λ i. binary v (λ j. bit_at w numbers (i * v + j)))
    ∙ ap (λ (r : List ℕ). tabulate i (λ i. binary v (λ j. bit_at w numbers (i * v + j))) ++ r)
    (tabulate_const count (λ k l. sum-zero v (λ j s. ap (λ (y : ℕ). 2 ^ j * y)
    (bit_at_outside w numbers ((i + k) * v + j) pos (omega arith)) ∙ mul-zero (2 ^ j))))

-- so many groups, then a last one that may be short in numbers or in places, then zeros
module _ {w v places many : ℕ} (group : Group w v places many) (n : ℕ) (numbers : List ℕ) (g : ℕ)
    (groups : g ≡ min (n / places) (length numbers / many))
  where
    -- where a whole group of places is left, the numbers end within it
    numbers_end : places < n - g * places → length numbers * w ≤ (g * places + places) * v
    numbers_end more =
        let room : g < n / places = (le-div_iff_mul-le group.some_places).1 (omega (arith, suc-mul g places)) in
        let short : length numbers < suc g * many = (div-lt_iff_lt-mul group.some_numbers).0 (omega arith) in
        le_trans (mul-le-mul_right w (le_of_lt short)) (omega (arith, suc-mul g many, group.same_bits, group_start group g))

    module _ (below : AllBelow (2 ^ w) numbers) (count len : ℕ) (counts : count ≡ min (n - g * places) places)
        (lens : len ≡ min (length numbers - g * many) many)
      where
        last_bits : (t : ℕ) → t < count * v → bit_at w (take len (drop (g * many) numbers)) t ≡ bit_at w numbers (g * many * w + t)
        last_bits t l =
            elim (dec_lt (length numbers - g * many) many) [
              | yes s ↦ bit_at_rest w numbers group.some_bits (g * many) len (omega arith) t
              | no s ↦ let whole : len ≡ many = omega arith in
                  let narrow : count * v ≤ places * v = mul-le-mul_right v (omega arith) in
                  bit_at-part w numbers group.some_bits (g * many) len t (rw (whole, group.same_bits) (omega arith))
            ]

        regrouped_parts : regrouped w v n numbers
            ≡ (regrouped w v (g * places) numbers ++ fields_of v count (value_in w (take len (drop (g * many) numbers))))
            ++ replicate (n - (g * places + count)) 0
        regrouped_parts =
            let inside : g * places ≤ n = groups-within g n places (omega arith) in
            rw (← regrouped-add w v numbers (g * many) len (g * places) count group.some_bits below (group_start group g) last_bits)
            (elim (dec_lt places (n - g * places)) [
              | yes s ↦ let whole : count ≡ places = omega arith in
                  let split : n ≡ (g * places + count) + (n - (g * places + count)) = omega arith in
                  ap (λ (k : ℕ). regrouped w v k numbers) split
                  ∙ regrouped_zeros w v numbers (g * places + count) (n - (g * places + count)) group.some_bits (rw whole (numbers_end s))
              | no s ↦ let end : g * places + count ≡ n = omega arith in
                  let none : n - n ≡ 0 = omega arith in
                  rw (end, none, append-nil (regrouped w v n numbers))
            ])

        -- as code makes it: the groups, the last one behind them, zeros behind that
        pub parts_whole : (l₁ l₂ : List ℕ) {l₃ : List ℕ} {x : ℕ} → take (g * places) l₁ ≡ regrouped w v (g * places) numbers
            → x ≡ value_in w (take len (drop (g * many) numbers)) → take (g * places + count) l₂ ≡ take (g * places) l₁ ++ fields_of v count x
            → length l₂ ≡ n → l₃ ≡ take (g * places + count) l₂ ++ replicate (length l₂ - (g * places + count)) 0
            → l₃ ≡ regrouped w v n numbers
        parts_whole l₁ l₂ first value last full cleared = rw (cleared, full, last, first, value) (sym regrouped_parts)

-- what stands up to the end of octets that were stored
pub take_stored_fields : (at len x : ℕ) (l : List ℕ) {r : List ℕ} → at + len ≤ length l → r ≡ stored at len x l
    → take (at + len) r ≡ take at l ++ fields_of 8 len x
take_stored_fields at len x l h e = rw (← octets_of_fields len x) (take_stored at len x l h e len (omega arith))

-- a part as code lends it
pub lent : (at n : ℕ) (l : List ℕ) → take (at + n - at) (drop at l) ≡ take n (drop at l)
lent at n l = let size : at + n - at ≡ n = omega arith in rw size

-- the rest of a list as code lends it, and given back with something in front of what it had
pub lent_rest : (at : ℕ) (l : List ℕ) → take (length l - at) (drop at l) ≡ drop at l
lent_rest at l = take_all (length l - at) (drop at l) (omega (arith, length-drop at l))

pub given_rest : (at count : ℕ) (l front : List ℕ) {part : List ℕ} → part ≡ front ++ drop count (take (length l - at) (drop at l))
    → put_mid at (length l - at) l part ≡ take at l ++ (front ++ drop (at + count) l)
given_rest at count l front e =
    let none : drop (length l - at) (drop at l) ≡ [] = drop_of_length-le (drop at l) (omega (arith, length-drop at l)) in
    rw (e, lent_rest at l, none, append-nil (front ++ drop count (drop at l)), drop-drop count at l)

-- zeros filled in from a place on
pub filled : (at : ℕ) (l : List ℕ) {part : List ℕ} → at ≤ length l → part ≡ replicate (length (take (length l - at) (drop at l))) 0
    → put_mid at (length l - at) l part ≡ take at l ++ replicate (length l - at) 0
filled at l room e =
    let left : length (drop at l) ≡ length l - at = length-drop at l in
    let size : length (take (length l - at) (drop at l)) ≡ length l - at = length-take-le (length l - at) (drop at l) (omega arith) in
    let none : drop (length l - at) (drop at l) ≡ [] = drop_of_length-le (drop at l) (omega arith) in
    rw (e, size, none, append-nil (replicate {A = ℕ} (length l - at) 0))

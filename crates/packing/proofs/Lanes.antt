-- Why a group of coefficients may be added up by lanes: the four sums, each shifted to its place, are the number of the group.
--
--   lanes_whole      the number of the four lanes is that of the coefficients
--   lane-..          a lane with one coefficient more; it fits 32 bits, as all of them do together;  lanes_stored: the four lanes stored
--   four_value       the number of four lanes, as a sum
--   collect_step     the lanes of one group more;  join_step: its octets
--   groups_step      the octets of up to 16 groups more;  number_fits: the number of a group fits 32 bits
-- Assumes nothing.
use Prim.Native.Nat.{ℕ, zero, suc, ◌+◌, ◌*◌, ◌%◌, ◌^◌, ◌≤◌, ◌<◌, zero-le}
use mathlib.Core.Path.{◌≡◌, refl, sym, ap, ◌∙◌}
use mathlib.Core.Bool.{true}
use mathlib.Core.List.{List, [], ◌∷◌, ◌++◌, append-nil, append_assoc}
use native.Mathlib.Nat.{zero-add, add-zero, mul-le-mul_right, le_trans, lt_of_le_of_lt}
use native.Mathlib.Numerals.{add-one}
use native.Mathlib.Omega.{arith}
use lib.Pow.{pow_pos, pow-add}
use lib.ListN.{length, get_or, take, drop, length-drop, set}
use Rattle.definitions.specs.Sequences.{sum, tabulate, joined}
use Rattle.definitions.specs.Octets.{octets_of, regrouped, encoded, coefficients_fit}
use Rattle.definitions.proofs.Filling.{tabulate_snoc, four_stored, four_read, put_step}
use Rattle.definitions.proofs.Sums.{tabulate_cong}
use Rattle.definitions.proofs.Octets.{AllBelow}
use Rattle.encoding.proofs.Laws.{encoded_snoc}
use Rattle.packing.specs.Fields.{value_in, fields_of}
use Rattle.packing.specs.Lanes.{lane_from, lanes_in, lane_number, group_number}
use Rattle.packing.proofs.Fields.{weight_suc, octets_of_fields, regrouped_group}
use Rattle.packing.proofs.Groups.{Group}
use Rattle.packing.proofs.Shifts.{shift_exact, value_next, value-fits}

-- ---- the lanes of a group

pub lanes_whole : (words : List ℕ) (b rows : ℕ) → rows * 4 ≤ length words → value_in b (take (rows * 4) words) ≡ value_in b (lanes_in b rows words)
unfolding value_in lanes_in lane_from sum
lanes_whole words b zero h = omega arith
lanes_whole words b (suc rows) h =
    let count : suc rows * 4 ≡ suc (suc (suc (suc (rows * 4)))) = omega arith in
    let e1 : get_or words (suc (rows * 4)) 0 ≡ get_or words (1 + rows * 4) 0 = ap (λ (i : ℕ). get_or words i 0) (omega arith) in
    let e2 : get_or words (suc (suc (rows * 4))) 0 ≡ get_or words (2 + rows * 4) 0 = ap (λ (i : ℕ). get_or words i 0) (omega arith) in
    let e3 : get_or words (suc (suc (suc (rows * 4)))) 0 ≡ get_or words (3 + rows * 4) 0 = ap (λ (i : ℕ). get_or words i 0) (omega arith) in
    rw (
      count,
      value_next words b (suc (suc (suc (rows * 4)))) (omega arith),
      value_next words b (suc (suc (rows * 4))) (omega arith),
      value_next words b (suc (rows * 4)) (omega arith),
      value_next words b (rows * 4) (omega arith),
      weight_suc b (suc (suc (rows * 4))),
      weight_suc b (suc (rows * 4)),
      weight_suc b (rows * 4),
      e1,
      e2,
      e3,
      zero-add (rows * 4),
      lanes_whole words b rows (omega arith),
    ) (omega arith)

-- ---- what fits

value-least : (b : ℕ) (xs : List ℕ) (i : ℕ) → get_or xs i 0 ≤ value_in b xs
unfolding value_in
value-least b [] i = zero-le
value-least b (x ∷ xs) zero = omega arith
value-least b (x ∷ xs) (suc i) = omega (arith, value-least b xs i, mul-le-mul_right (value_in b xs) (pow_pos b))

module _ (words : List ℕ) (b rows most : ℕ) (fit : coefficients_fit (2 ^ b) words ≡ true) (few : rows ≤ most) (narrow : most * 4 * b ≤ 32)
    (inside : most * 4 ≤ length words)
  where
    all_fit : value_in b (lanes_in b rows words) < 4294967296
    all_fit =
        let bits : rows * 4 * b ≤ 32 = le_trans (mul-le-mul_right b (mul-le-mul_right 4 few)) narrow in
        rw (← lanes_whole words b rows (omega arith)) (value-fits words 0 b (rows * 4) fit bits)

    pub lane_fits : (i : ℕ) → get_or (lanes_in b rows words) i 0 < 4294967296
    lane_fits i = lt_of_le_of_lt (value-least b (lanes_in b rows words) i) all_fit

-- a lane with one coefficient more, as the code makes it
pub lane_step : (words : List ℕ) (from b rows j : ℕ) {x row : ℕ} → coefficients_fit (2 ^ b) words ≡ true → rows * 4 * b ≤ 32 → j < rows
    → row < length words → row ≡ from + j * 4 → x ≡ lane_from b j from words
    → x + get_or words row 0 * 2 ^ (j * 4 * b) % 4294967296 ≡ lane_from b (j + 1) from words
unfolding lane_from sum
lane_step words from b rows j {row = row} fit narrow few inside place e =
    rw (shift_exact words b (j * 4) (rows * 4) row fit narrow (omega arith) inside, e, add-one j, place)

-- the four stores
pub lanes_stored : (l : List ℕ) (b rows : ℕ) (words : List ℕ) {x0 x1 x2 x3 : ℕ} → 4 ≤ length l → x0 ≡ lane_from b rows 0 words
    → x1 ≡ lane_from b rows 1 words → x2 ≡ lane_from b rows 2 words → x3 ≡ lane_from b rows 3 words
    → set (set (set (set l 0 x0) 1 x1) 2 x2) 3 x3 ≡ lanes_in b rows words ++ drop 4 l
unfolding lanes_in
lanes_stored l b rows words {x0} {x1} {x2} {x3} h e0 e1 e2 e3 = rw (← e0, ← e1, ← e2, ← e3) (four_stored l 0 x0 x1 x2 x3 h)

-- ---- four lanes joined

pub four_value : (lanes : List ℕ) (b : ℕ) → 4 ≤ length lanes
    → value_in b (take 4 lanes) ≡ get_or lanes 0 0 + get_or lanes 1 0 * 2 ^ b + get_or lanes 2 0 * 2 ^ (2 * b) + get_or lanes 3 0 * 2 ^ (3 * b)
unfolding value_in
four_value lanes b inside =
    let four : take 4 lanes ≡ get_or lanes 0 0 ∷ get_or lanes 1 0 ∷ get_or lanes 2 0 ∷ get_or lanes 3 0 ∷ [] = four_read lanes 0 inside in
    let two : 2 ^ (2 * b) ≡ 2 ^ b * 2 ^ b = ap (λ (e : ℕ). 2 ^ e) (omega arith) ∙ pow-add 2 b b in
    let three : 2 ^ (3 * b) ≡ 2 ^ b * (2 ^ b * 2 ^ b)
    = ap (λ (e : ℕ). 2 ^ e) (omega arith) ∙ pow-add 2 b (b + b) ∙ ap (λ (e : ℕ). 2 ^ b * e) (pow-add 2 b b) in
    rw (four, two, three) (omega arith)

-- ---- the lanes of some groups

-- a turn of the loop over groups that adds up lanes
pub collect_step : (b many start g : ℕ) (words old : List ℕ) {new : List ℕ} → g * 4 + 4 ≤ length old
    → (start + g) * (many * 8) + many * 8 ≤ length words
    → new ≡ take (g * 4) old ++ (lanes_in b (many * 2) (drop ((start + g) * (many * 8)) words) ++ drop (g * 4 + 4) old)
    → ((k : ℕ) → k < g → lane_number b old k ≡ group_number b (many * 8) words (start + k))
    → (k : ℕ) → k < g + 1 → lane_number b new k ≡ group_number b (many * 8) words (start + k)
unfolding lane_number lanes_in group_number
collect_step b many start g words old room inside stored =
    let own : List ℕ = drop ((start + g) * (many * 8)) words in
    let lanes : List ℕ = lanes_in b (many * 2) own in
    let size : many * 2 * 4 ≡ many * 8 = omega arith in
    let number : value_in b lanes ≡ group_number b (many * 8) words (start + g)
    = rw (← lanes_whole own b (many * 2) (omega (arith, length-drop ((start + g) * (many * 8)) words)), size) in
    put_step (λ (k : ℕ) (four : List ℕ). value_in b four ≡ group_number b (many * 8) words (start + k)) old lanes 4 4 g (omega arith) (omega arith)
    refl stored number

-- ---- the octets of some groups

-- a turn of the loop over groups that stores octets
pub join_step : (len start g : ℕ) (front l r : List ℕ) (f : ℕ → ℕ) {x : ℕ} → x ≡ f g
    → take ((start + g) * len) l ≡ front ++ encoded len (tabulate g f)
    → take ((start + g) * len + len) r ≡ take ((start + g) * len) l ++ fields_of 8 len x
    → take ((start + (g + 1)) * len) r ≡ front ++ encoded len (tabulate (g + 1) f)
join_step len start g front l r f value before put =
    let next : (start + (g + 1)) * len ≡ (start + g) * len + len = omega arith in
    rw (next, put, before, add-one g, tabulate_snoc g f, encoded_snoc len (tabulate g f) (f g), octets_of_fields len (f g), value)
    (append_assoc front (encoded len (tabulate g f)) (fields_of 8 len (f g)))

-- so many groups more
module _ {w places many : ℕ} (group : Group w 8 places many) (numbers : List ℕ) (start : ℕ) (below : AllBelow (2 ^ w) numbers) where
  number_at : ℕ → ℕ
  number_at g = group_number w many numbers (start + g)

  regrouped-groups : (some : ℕ)
      → regrouped w 8 ((start + some) * places) numbers ≡ regrouped w 8 (start * places) numbers ++ encoded places (tabulate some number_at)
  regrouped-groups zero =
      let none : encoded places (tabulate 0 number_at) ≡ [] = unfold encoded joined tabulate in refl in
      rw (add-zero start, none, append-nil (regrouped w 8 (start * places) numbers))
  regrouped-groups (suc some) =
      let next : (start + suc some) * places ≡ (start + some) * places + places = omega arith in
      let last : fields_of 8 places (value_in w (take many (drop ((start + some) * many) numbers))) ≡ octets_of places (number_at some)
      = unfold number_at group_number in sym (octets_of_fields places (value_in w (take many (drop ((start + some) * many) numbers)))) in
      rw (next, regrouped_group group numbers (start + some) below, regrouped-groups some, last, tabulate_snoc some number_at)
      (rw (encoded_snoc places (tabulate some number_at) (number_at some))
      (append_assoc (regrouped w 8 (start * places) numbers) (encoded places (tabulate some number_at)) (octets_of places (number_at some))))

  -- a turn of the loop over up to 16 groups
  pub groups_step : (l r : List ℕ) (some : ℕ) (f : ℕ → ℕ) → ((g : ℕ) → g < some → f g ≡ group_number w many numbers (start + g))
      → take (start * places) l ≡ regrouped w 8 (start * places) numbers
      → take ((start + some) * places) r ≡ take (start * places) l ++ encoded places (tabulate some f)
      → take ((start + some) * places) r ≡ regrouped w 8 ((start + some) * places) numbers
  unfolding number_at
  groups_step l r some f values before put = rw (regrouped-groups some, put, before, tabulate_cong some values)

-- the number of a group's lanes is that of its coefficients
pub number_fits : (words : List ℕ) (b many g : ℕ) {x : ℕ} → coefficients_fit (2 ^ b) words ≡ true → many * b ≤ 4
    → x ≡ group_number b (many * 8) words g → x < 4294967296
unfolding group_number
number_fits words b many g fit small e = rw e (value-fits words (g * (many * 8)) b (many * 8) fit (omega (arith, small)))

-- Why rows of four from a number and three of its shifts are its coefficients: coefficient 4 j + k is x shifted by k b and then by 4 b j bits.
--
--   lanes_rows       the rows of a number and its shifts are its coefficients
--   NewTo            the front of a list is new, the rest as it was;  row_step, rows_end: the loop over rows;  spread_step: over groups
--   groups-unpacked  the rows of all groups are the coefficients of the octets
-- Assumes nothing.
use Prim.Native.Nat.{ℕ, zero, suc, ◌+◌, ◌*◌, ◌/◌, ◌%◌, ◌^◌, ◌≤◌, ◌<◌}
use mathlib.Core.Path.{◌≡◌, refl, sym, ap, ap₂, ◌∙◌}
use mathlib.Core.List.{List, [], ◌∷◌, ◌++◌}
use native.Mathlib.Nat.{add-zero, one-mul, zero-mul, suc-mul, le_step, lt-suc_self}
use native.Mathlib.Numerals.{add-one}
use native.Mathlib.Omega.{arith}
use lib.Pow.{shr-shr}
use lib.ListN.{length, get_or, take, drop, set, length-append, length-drop, take-append-drop, length-map}
use lib.Seq.{drop-drop, length-take-le}
use Rattle.definitions.specs.Sequences.{tabulate}
use Rattle.definitions.specs.Octets.{number_of, regrouped, unpacked}
use Rattle.definitions.proofs.Filling.{tabulate-add, four_stored, four_read, put_take, put_drop}
use Rattle.definitions.proofs.Octets.{AllBelow}
use Rattle.packing.specs.Fields.{value_in, fields_of}
use Rattle.packing.proofs.Fields.{number_of-value, regrouped_group}
use Rattle.packing.proofs.Groups.{group_of, turned}
use Rattle.unpacking.specs.Lanes.{lanes_of, row_of, rows_of, groups_of}

-- ---- the rows of a number and its shifts

lane : (b j k x : ℕ) → x / 2 ^ (k * b) / 2 ^ (j * 4 * b) % 2 ^ b ≡ x / 2 ^ ((j * 4 + k) * b) % 2 ^ b
lane b j k x =
    let place : k * b + j * 4 * b ≡ (j * 4 + k) * b = omega arith in
    rw (shr-shr x (k * b) (j * 4 * b), place)

lanes_row : (b j x : ℕ) → row_of b j (lanes_of b x) ≡ tabulate 4 (λ k. x / 2 ^ ((j * 4 + k) * b) % 2 ^ b)
unfolding row_of lanes_of tabulate
lanes_row b j x =
    let first : x / 2 ^ (j * 4 * b) % 2 ^ b ≡ x / 2 ^ ((j * 4 + 0) * b) % 2 ^ b = rw (add-zero (j * 4)) in
    let second : x / 2 ^ b / 2 ^ (j * 4 * b) % 2 ^ b ≡ x / 2 ^ ((j * 4 + 1) * b) % 2 ^ b = rw (one-mul b) at (lane b j 1 x) in
    ap₂ ◌∷◌ first (ap₂ ◌∷◌ second (ap₂ ◌∷◌ (lane b j 2 x) (ap₂ ◌∷◌ (lane b j 3 x) refl)))

pub lanes_rows : (b rows x : ℕ) → rows_of b rows (lanes_of b x) ≡ fields_of b (rows * 4) x
unfolding rows_of fields_of tabulate
lanes_rows b zero x = refl
lanes_rows b (suc j) x =
    let more : suc j * 4 ≡ j * 4 + 4 = suc-mul j 4 in
    rw (more, tabulate-add (j * 4) 4 (λ k. x / 2 ^ (k * b) % 2 ^ b))
    (ap₂ ◌++◌ (lanes_rows b j x) (lanes_row b j x))

length-rows_of : (b rows : ℕ) (lanes : List ℕ) → length lanes ≡ 4 → length (rows_of b rows lanes) ≡ rows * 4
unfolding rows_of row_of
length-rows_of b zero lanes h = refl
length-rows_of b (suc j) lanes h =
    omega (
      arith,
      length-rows_of b j lanes h,
      length-append (rows_of b j lanes) (row_of b j lanes),
      length-map lanes (λ (lane : ℕ). lane / 2 ^ (j * 4 * b) % 2 ^ b),
      suc-mul j 4,
    )

-- ---- turns of loops

-- as far as n the list is new, from there on it is as it was
abbrev pub NewTo : ℕ → List ℕ → List ℕ → List ℕ → Type 0
NewTo n front words l = (take n l ≡ front) × (drop n l ≡ drop n words)

-- a part put at the seam
new_step : (words l front part : List ℕ) (n count : ℕ) {r : List ℕ} → n ≤ length l → length part ≡ count → r ≡ take n l ++ (part ++ drop (n + count) l)
    → NewTo n front words l → NewTo (n + count) (front ++ part) words r
new_step words l front part n count room len put before =
    let none : n + count + 0 ≡ n + count = omega arith in
    let rest : drop (n + count) l ≡ drop (n + count) words = sym (drop-drop count n l) ∙ ap (drop count) before.1 ∙ drop-drop count n words in
    (rw (← before.0) (put_take l part n count room len put), rw none at (put_drop l part n count room len put 0) ∙ rest)

-- a row of four
pub row_step : (words l : List ℕ) (b j : ℕ) {m : ℕ} {r : List ℕ} → m ≡ 2 ^ b → 4 ≤ length words → j * 4 + 4 ≤ length l
    → r ≡ set (set (set (set l (j * 4) (get_or words 0 0 / 2 ^ (j * 4 * b) % m)) (j * 4 + 1) (get_or words 1 0 / 2 ^ (j * 4 * b) % m))
    (j * 4 + 2) (get_or words 2 0 / 2 ^ (j * 4 * b) % m)) (j * 4 + 3) (get_or words 3 0 / 2 ^ (j * 4 * b) % m)
    → NewTo (j * 4) (rows_of b j (take 4 words)) words l → NewTo ((j + 1) * 4) (rows_of b (j + 1) (take 4 words)) words r
unfolding rows_of row_of
row_step words l b j modulus inside room stored before =
    let next : (j + 1) * 4 ≡ j * 4 + 4 = omega arith in
    let four : take 4 words ≡ get_or words 0 0 ∷ get_or words 1 0 ∷ get_or words 2 0 ∷ get_or words 3 0 ∷ [] = four_read words 0 inside in
    rw (next, add-one j, four)
    (new_step words l _ _ (j * 4) 4 (omega arith) refl (rw (stored, modulus) (four_stored l (j * 4) _ _ _ _ room)) (rw four at before))

pub rows_end : (words l part : List ℕ) (n : ℕ) → NewTo n part words l → l ≡ part ++ drop n words
rows_end words l part n new = sym (take-append-drop n l) ∙ rw (new.0, new.1) refl

-- the rows of a group
pub spread_step : (b many g : ℕ) (words l : List ℕ) {r : List ℕ} → 1 ≤ many → g * (many * 8) + many * 2 * 4 ≤ length l
    → r ≡ take (g * (many * 8)) l ++ (rows_of b (many * 2) (take 4 (drop (g * (many * 8)) l)) ++ drop (g * (many * 8) + many * 2 * 4) l)
    → NewTo (g * (many * 8)) (groups_of b many g words) words l → NewTo ((g + 1) * (many * 8)) (groups_of b many (g + 1) words) words r
unfolding groups_of
spread_step b many g words l pos room put before =
    let four = take 4 (drop (g * (many * 8)) l) in
    let next : (g + 1) * (many * 8) ≡ g * (many * 8) + many * 2 * 4 = omega arith in
    let whole = length-rows_of b (many * 2) four (length-take-le 4 (drop (g * (many * 8)) l) (omega (arith, length-drop (g * (many * 8)) l))) in
    rw (next, add-one g, ← before.1) (new_step words l _ (rows_of b (many * 2) four) (g * (many * 8)) (many * 2 * 4) (omega arith) whole put before)

-- ---- all groups

pub groups-unpacked : (b many groups : ℕ) (octets words : List ℕ) → 1 ≤ b → 1 ≤ many → AllBelow 256 octets
    → ((g : ℕ) → g < groups → take 4 (drop (g * (many * 8)) words) ≡ lanes_of b (number_of (take (many * b) (drop (g * (many * b)) octets))))
    → groups_of b many groups words ≡ unpacked b (groups * (many * 8)) octets
unfolding groups_of unpacked
groups-unpacked b many zero octets words pos some below placed = unfold regrouped tabulate in rw (zero-mul (many * 8))
groups-unpacked b many (suc g) octets words pos some below placed =
    let start : groups_of b many g words ≡ regrouped 8 b (g * (many * 8)) octets
    = unfold unpacked in groups-unpacked b many g octets words pos some below (λ h l. placed h (le_step l)) in
    let size : many * 2 * 4 ≡ many * 8 = omega arith in
    let part = take (many * b) (drop (g * (many * b)) octets) in
    let last : rows_of b (many * 2) (take 4 (drop (g * (many * 8)) words)) ≡ fields_of b (many * 8) (value_in 8 part)
    = rw (placed g (lt-suc_self g), lanes_rows b (many * 2) (number_of part), size, number_of-value part) in
    rw (suc-mul g (many * 8), regrouped_group (turned (group_of b many pos some)) octets g below) (ap₂ ◌++◌ start last)

-- A line of numbers, field after field.
--
--   numbers_fit           so many fields, each a number, by recursion: `well_formed` without the length of the line
--   numbers_fit_..        the same, by the first field, whatever the count
--   Progress             what holds after i fields;  progress_..: where it begins, after a field, and at each way out
-- Assumes nothing.
use Prim.Native.Nat.{ℕ, zero, suc, ◌+◌, ◌-◌, ◌≤◌, ◌<◌}
use native.Mathlib.Nat.{sub-zero, suc-sub-suc}
use native.Mathlib.Numerals.{add-one}
use native.Mathlib.Omega.{arith}
use native.Mathlib.Decide.{dec_lt, ℕ_discrete}
use mathlib.Core.Path.{◌≡◌, refl, sym, ap, ap₂, ◌∙◌}
use mathlib.Core.Bool.{Bool, true, false, ◌&&◌, and-false}
use mathlib.Core.List.{List, [], ◌∷◌, ◌++◌, map, append_assoc}
use lib.Dec.{eqb, eqb-suc-suc, eqb-zero-suc}
use lib.ListN.{length, get_or, take, drop, set, length-set, length-drop}
use lib.Seq.{take-suc-set, drop-drop}
use borrow.Author.Tests.{le-leb, lt-leb, eq-eqb, ne_eqb}
use Rattle.std.specs.Prelude.{Some}
use Rattle.definitions.specs.Sequences.{every}
use Rattle.definitions.specs.Roomsheet.{Text, split, decimal, is_number, well_formed, numbers_of}
use Rattle.roomsheet_parse.specs.Parts.{up_to, past, Without}
use Rattle.roomsheet_parse.specs.Numbers.{field_at, Finds, NumbersRead}
use Rattle.roomsheet_parse.specs.declared.Number.{Number}
use Rattle.roomsheet_parse.proofs.Parts.{length-up_to, up_to-whole, past-drop, split_last, split_more}
use Rattle.roomsheet_parse.proofs.Numbers.{every-cons, exchange}

-- ---- so many numbers

abbrev parts_fit : ℕ → List Text → Bool
parts_fit zero [] = true
parts_fit zero (part ∷ parts) = false
parts_fit (suc k) [] = false
parts_fit (suc k) (part ∷ parts) = is_number part && parts_fit k parts

abbrev pub numbers_fit : ℕ → Text → Bool
numbers_fit count text = parts_fit count (split 32 text)

parts_fit_is : (count : ℕ) (parts : List Text) → (eqb (length parts) count && every count (λ i. is_number (get_or parts i []))) ≡ parts_fit count parts
unfolding every
parts_fit_is zero [] = refl
parts_fit_is zero (part ∷ parts) = rw (ne_eqb (suc (length parts)) 0 (λ e. omega arith))
parts_fit_is (suc k) [] = rw (eqb-zero-suc k)
parts_fit_is (suc k) (part ∷ parts) =
    ap₂ ◌&&◌ (eqb-suc-suc (length parts) k) (every-cons k (λ i. is_number (get_or (part ∷ parts) i [])))
    ∙ exchange (eqb (length parts) k) (is_number part) (every k (λ i. is_number (get_or parts i [])))
    ∙ ap (λ (b : Bool). is_number part && b) (parts_fit_is k parts)

parts_fit_nil : (k : ℕ) → parts_fit k [] ≡ eqb 0 k
parts_fit_nil zero = refl
parts_fit_nil (suc k) = sym (eqb-zero-suc k)

numbers_fit_zero : (t : Text) → numbers_fit 0 t ≡ false
numbers_fit_zero t =
    elim (dec_lt (length (up_to 32 t)) (length t)) [
      | yes h ↦ ap (parts_fit 0) (split_more 32 t h)
      | no g ↦ ap (parts_fit 0) (split_last 32 t (up_to-whole 32 t (omega (arith, length-up_to 32 t))))
    ]

-- by the first field, for any count: no text fits 0, so that 0 - 1 = 0 serves
module _ (t : Text) where
  pub numbers_fit_last : Without 32 t → (k : ℕ) → numbers_fit k t ≡ (is_number t && eqb 1 k)
  numbers_fit_last w zero = numbers_fit_zero t ∙ sym (and-false (is_number t))
  numbers_fit_last w (suc k) =
      ap (parts_fit (suc k)) (split_last 32 t w) ∙ ap (λ (b : Bool). is_number t && b) (parts_fit_nil k ∙ sym (eqb-suc-suc 0 k))

  pub numbers_fit_more : length (up_to 32 t) < length t → (k : ℕ) → numbers_fit k t ≡ (is_number (up_to 32 t) && numbers_fit (k - 1) (past 32 t))
  numbers_fit_more h zero = numbers_fit_zero t ∙ sym (rw (numbers_fit_zero (past 32 t)) (and-false (is_number (up_to 32 t))))
  numbers_fit_more h (suc k) = ap (parts_fit (suc k)) (split_more 32 t h) ∙ rw (suc-sub-suc k 0, sub-zero k)

  -- a first field that is no number spoils the line
  pub numbers_fit_spoiled : is_number (up_to 32 t) ≡ false → (k : ℕ) → numbers_fit k t ≡ false
  numbers_fit_spoiled e k =
      elim (dec_lt (length (up_to 32 t)) (length t)) [
        | yes h ↦ numbers_fit_more h k ∙ rw e
        | no g ↦ let w = up_to-whole 32 t (omega (arith, length-up_to 32 t)) in numbers_fit_last w k ∙ rw (ap is_number (sym w) ∙ e)
      ]

-- ---- the loop

pub record Progress (line : Text) (before numbers : List ℕ) (at i : ℕ) : Type 0 where
  pub short : length line ≤ 80
  pub within : at ≤ length line
  pub kept : length numbers ≡ length before
  pub fits : (count : ℕ) → numbers_fit count line ≡ numbers_fit (count - i) (drop at line)
  pub stored : take i numbers ++ numbers_of (drop at line) ≡ numbers_of line

pub progress_start : (line : Text) (numbers : List ℕ) → length line ≤ 80 → Progress line numbers numbers 0 0
progress_start line numbers short =
    record {
      short = short;
      within = omega arith;
      kept = refl;
      fits = λ count. ap (λ (k : ℕ). numbers_fit k line) (sym (sub-zero count));
      stored = refl;
    }

well_formed-fits : (line : Text) (count : ℕ) → length line ≤ 80 → well_formed count line ≡ numbers_fit count line
unfolding well_formed
well_formed-fits line count short = rw (le-leb (length line) 80 short) (parts_fit_is count (split 32 line))

pub long_read : (line : Text) → 80 < length line → (n : ℕ) → well_formed n line ≡ false
unfolding well_formed
long_read line long n = rw (lt-leb (length line) 80 long)

eqb_left : (i count : ℕ) → eqb 1 (count - i) ≡ eqb (i + 1) count
eqb_left i count =
    elim (ℕ_discrete (i + 1) count) [
      | yes e ↦ eq-eqb 1 (count - i) (omega arith) ∙ sym (eq-eqb (i + 1) count e)
      | no n ↦ ne_eqb 1 (count - i) (λ e. n (omega arith)) ∙ sym (ne_eqb (i + 1) count n)
    ]

module _ (line : Text) (before numbers : List ℕ) (at i : ℕ) (p : Progress line before numbers at i) where
  judged : (count : ℕ) → well_formed count line ≡ numbers_fit (count - i) (drop at line)
  judged count = well_formed-fits line count p.short ∙ p.fits count

  -- more fields than there is room for
  pub progress_over : length numbers ≤ i → (n : ℕ) → n ≤ length before → well_formed n line ≡ false
  progress_over full n room =
      let none : n - i ≡ 0 = omega (arith, p.kept) in
      judged n ∙ ap (λ (k : ℕ). numbers_fit k (drop at line)) none ∙ numbers_fit_zero (drop at line)

  pub progress_spoiled : is_number (field_at line at) ≡ false → (n : ℕ) → well_formed n line ≡ false
  progress_spoiled e n = judged n ∙ numbers_fit_spoiled (drop at line) e (n - i)

  module _ (more : i < length numbers) (number : Number) (found : Finds is_number line at (Some number)) where
    -- the number goes behind those before it
    stored_next : take (i + 1) (set numbers i number.value) ≡ take i numbers ++ (number.value ∷ [])
    stored_next = ap (λ (n : ℕ). take n (set numbers i number.value)) (add-one i) ∙ take-suc-set numbers i number.value more

    pub progress_end : number.next ≡ length line → NumbersRead (length before) line (Some (i + 1)) (set numbers i number.value)
    unfolding numbers_of
    progress_end e =
        let whole = up_to-whole 32 (drop at line) (omega (arith, found.2, length-drop at line)) in
        let is-number : is_number (drop at line) ≡ true = ap is_number (sym whole) ∙ found.0 in
        let numbers_end : numbers_of (drop at line) ≡ number.value ∷ []
        = ap (map decimal) (split_last 32 (drop at line) whole) ∙ ap (λ (x : ℕ). x ∷ []) (ap decimal (sym whole) ∙ sym found.1) in
        let told : (n : ℕ) → eqb (i + 1) n ≡ well_formed n line = λ n.
        sym (judged n ∙ numbers_fit_last (drop at line) whole (n - i) ∙ rw is-number (eqb_left i n)) in
        (omega (arith, p.kept), told, stored_next ∙ ap (λ (r : List ℕ). take i numbers ++ r) (sym numbers_end) ∙ p.stored)

    module _ (on : number.next ≡ length line → ⊥) where
      ended : length (field_at line at) < length (drop at line)
      ended = omega (arith, found.2, length-drop at line, length-up_to 32 (drop at line))

      past_next : past 32 (drop at line) ≡ drop (number.next + 1) line
      past_next =
          let place : at + suc (length (field_at line at)) ≡ number.next + 1 = omega (arith, found.2) in
          past-drop 32 (drop at line) ended ∙ drop-drop (suc (length (field_at line at))) at line ∙ ap (λ (n : ℕ). drop n line) place

      numbers_next : numbers_of (drop at line) ≡ number.value ∷ numbers_of (drop (number.next + 1) line)
      unfolding numbers_of
      numbers_next = ap (map decimal) (split_more 32 (drop at line) ended) ∙ ap₂ ◌∷◌ (sym found.1) (ap numbers_of past_next)

      fits_next : (count : ℕ) → numbers_fit count line ≡ numbers_fit (count - (i + 1)) (drop (number.next + 1) line)
      fits_next count =
          let left : count - i - 1 ≡ count - (i + 1) = omega arith in
          p.fits count ∙ numbers_fit_more (drop at line) ended (count - i) ∙ rw found.0 (ap₂ numbers_fit left past_next)

      pub progress_next : Progress line before (set numbers i number.value) (number.next + 1) (i + 1)
      progress_next =
          record {
            short = p.short;
            within = omega (arith, ended, found.2, length-drop at line);
            kept = length-set numbers i number.value ∙ p.kept;
            fits = fits_next;
            stored = ap (λ (r : List ℕ). r ++ numbers_of (drop (number.next + 1) line)) stored_next
                ∙ append_assoc (take i numbers) (number.value ∷ []) (numbers_of (drop (number.next + 1) line))
                ∙ ap (λ (r : List ℕ). take i numbers ++ r) (sym numbers_next)
                ∙ p.stored;
          }

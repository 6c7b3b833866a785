-- Reading a number: digits from the left, each tested, and the number so far, as it is met; then how many there are, and the first.
--
--   digits_read           whether digits, after those that wrote x, are digits and never pass 4,294,967,295
--   digits_fit_read       that is the test of the whole field, since a number only grows
--   Reading              what holds at a place of the field;  reading_start, -next, -end, -stop: where it begins, one digit on, at its end,
--                        and at an octet that does not go on
--   number-..            whether digits are a number of the grammar, by how many there are and by the first
-- Assumes nothing.
use Prim.Native.Nat.{ℕ, zero, suc, ◌+◌, ◌-◌, ◌*◌, ◌≤◌, ◌<◌}
use native.Mathlib.Nat.{lt_of_lt_of_le, add-zero}
use native.Mathlib.Decide.{dec_lt}
use native.Mathlib.Omega.{arith}
use mathlib.Core.Path.{◌≡◌, refl, sym, ap, ◌∙◌}
use mathlib.Core.Bool.{Bool, true, false, ◌&&◌, ◌||◌, and-true, and-false, and_assoc, or-true}
use mathlib.Core.List.{[], ◌∷◌}
use lib.Dec.{leb, eqb}
use lib.ListN.{length, get_or, drop}
use lib.Seq.{get_or-take, get_or-drop}
use borrow.Author.Tests.{le-leb, lt-leb, ne_eqb}
use Rattle.definitions.specs.Sequences.{every}
use Rattle.definitions.specs.Roomsheet.{Text, is_digit, decimal_from, decimal, is_number}
use Rattle.roomsheet_parse.specs.Numbers.{digits_fit, field_at, Finds}
use Rattle.std.specs.Prelude.{Some}
use Rattle.roomsheet_parse.proofs.Parts.{take-up_to}

abbrev pub digits_read : ℕ → Text → Bool
digits_read x [] = true
digits_read x (c ∷ field) = is_digit c && (leb (10 * x + (c - 48)) 4294967295 && digits_read (10 * x + (c - 48)) field)

pub every-cons : (n : ℕ) (f : ℕ → Bool) → every (suc n) f ≡ (f 0 && every n (λ i. f (suc i)))
unfolding every
every-cons zero f = sym (and-true (f 0))
every-cons (suc n) f = rw (every-cons n f) (and_assoc (f 0) (every n (λ i. f (suc i))) (f (suc n)))

decimal_from_grows : (x : ℕ) (field : Text) → x ≤ decimal_from x field
unfolding decimal_from
decimal_from_grows x [] = omega arith
decimal_from_grows x (c ∷ field) = omega (arith, decimal_from_grows (10 * x + (c - 48)) field)

fits_from : ℕ → Text → Bool
fits_from x field = every (length field) (λ i. is_digit (get_or field i 0)) && leb (decimal_from x field) 4294967295

fits-cons : (x c : ℕ) (field : Text) → fits_from x (c ∷ field) ≡ (is_digit c && fits_from (10 * x + (c - 48)) field)
unfolding fits_from decimal_from
fits-cons x c field =
    ap (λ (t : Bool). t && leb (decimal_from (10 * x + (c - 48)) field) 4294967295) (every-cons (length field) (λ i. is_digit (get_or (c ∷ field) i 0)))
    ∙ and_assoc (is_digit c) (every (length field) (λ i. is_digit (get_or field i 0))) (leb (decimal_from (10 * x + (c - 48)) field) 4294967295)

-- a number past the largest stays past it
fits-past : (x : ℕ) (field : Text) → 4294967295 < x → fits_from x field ≡ false
unfolding fits_from
fits-past x field h = rw (lt-leb (decimal_from x field) 4294967295 (lt_of_lt_of_le h (decimal_from_grows x field))) (and-false (every (length field) (λ i. is_digit (get_or field i 0))))

fits_read : (x : ℕ) (field : Text) → x ≤ 4294967295 → fits_from x field ≡ digits_read x field
fits_read x [] h = unfold fits_from every decimal_from in le-leb x 4294967295 h
fits_read x (c ∷ field) h =
    let y = 10 * x + (c - 48) in
    fits-cons x c field
    ∙ elim (dec_lt 4294967295 y) [
      | yes past ↦ rw (fits-past y field past, lt-leb y 4294967295 past)
      | no within ↦ let small : y ≤ 4294967295 = omega arith in rw (fits_read y field small, le-leb y 4294967295 small)
    ]

pub digits_fit_read : (field : Text) → digits_fit field ≡ digits_read 0 field
unfolding digits_fit decimal fits_from
digits_fit_read field = fits_read 0 field (omega arith)

-- ---- the loop

pub record Reading (line : Text) (from value i : ℕ) : Type 0 where
  pub within : i ≤ length line
  pub value-le : value ≤ 4294967295
  pub fits : digits_fit (field_at line from) ≡ digits_read value (field_at line i)
  pub number : decimal (field_at line from) ≡ decimal_from value (field_at line i)
  pub place : from + length (field_at line from) ≡ i + length (field_at line i)

pub reading_start : (line : Text) (from : ℕ) → from ≤ length line → Reading line from 0 from
unfolding decimal
reading_start line from h =
    record { within = h; value-le = omega arith; fits = digits_fit_read (field_at line from); number = refl; place = refl }

module _ (line : Text) (from value i : ℕ) (r : Reading line from value i) where
  -- the field ends here
  pub reading_end : field_at line i ≡ [] → Finds digits_fit line from (Some (record { value = value; next = i }))
  unfolding decimal_from
  reading_end e = (r.fits ∙ rw e, sym (r.number ∙ rw e), sym (r.place ∙ rw (e, add-zero i)))

  -- the octet here is no digit, or takes the number past the largest
  pub reading_stop : (c : ℕ) (rest : Text) → field_at line i ≡ c ∷ rest → digits_read value (c ∷ rest) ≡ false → digits_fit (field_at line from) ≡ false
  reading_stop c rest e f = r.fits ∙ rw (e, f)

  pub reading_next : (c : ℕ) → field_at line i ≡ c ∷ field_at line (i + 1) → i < length line → is_digit c ≡ true → 10 * value + (c - 48) ≤ 4294967295 → Reading line from (10 * value + (c - 48)) (i + 1)
  unfolding decimal_from
  reading_next c e h digit small =
      record {
        within = omega arith;
        value-le = small;
        fits = r.fits ∙ rw (e, digit, le-leb (10 * value + (c - 48)) 4294967295 small);
        number = r.number ∙ rw e;
        place = r.place ∙ rw e (omega arith);
      }

-- ---- a number, by its digits

pub exchange : (a b c : Bool) → (a && (b && c)) ≡ (b && (a && c))
exchange true b c = refl
exchange false true c = refl
exchange false false c = refl

-- no zero in front of others
abbrev first_fits : Text → Bool
first_fits field = eqb (length field) 1 || leb 49 (get_or field 0 0)

is_number_digits : (field : Text) → is_number field ≡ (leb 1 (length field) && (first_fits field && digits_fit field))
unfolding is_number digits_fit
is_number_digits field =
    ap (λ (b : Bool). leb 1 (length field) && b)
    (exchange (every (length field) (λ i. is_digit (get_or field i 0))) (first_fits field) (leb (decimal field) 4294967295))

module _ (field : Text) where
  pub number_none : digits_fit field ≡ false → is_number field ≡ false
  number_none e = rw (is_number_digits field, e, and-false (first_fits field)) (and-false (leb 1 (length field)))

  pub number_empty : length field ≡ 0 → is_number field ≡ false
  number_empty e = rw (is_number_digits field, e)

  pub number-one : length field ≡ 1 → is_number field ≡ digits_fit field
  number-one e = rw (is_number_digits field, e)

module _ (line : Text) (at : ℕ) (many : 1 < length (field_at line at)) where
  first_octet : get_or (field_at line at) 0 0 ≡ get_or line at 0
  first_octet =
      ap (λ (t : Text). get_or t 0 0) (sym (take-up_to 32 (drop at line))) ∙ get_or-take (length (field_at line at)) (drop at line) 0 0 (omega arith)
      ∙ get_or-drop at line 0 0 ∙ ap (λ (i : ℕ). get_or line i 0) (add-zero at)

  pub number-zero : get_or line at 0 ≤ 48 → is_number (field_at line at) ≡ false
  number-zero h =
      rw (is_number_digits (field_at line at), first_octet, ne_eqb (length (field_at line at)) 1 (λ e. omega arith), lt-leb 49 (get_or line at 0) (omega arith))
      (and-false (leb 1 (length (field_at line at))))

  pub number_many : 48 < get_or line at 0 → is_number (field_at line at) ≡ digits_fit (field_at line at)
  number_many h =
      rw (is_number_digits (field_at line at), first_octet, le-leb 49 (get_or line at 0) h, or-true (eqb (length (field_at line at)) 1))
      (rw (le-leb 1 (length (field_at line at)) (omega arith)))

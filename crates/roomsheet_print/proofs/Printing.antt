-- What is written behind what a buffer holds.
--
--   appended_append      two texts, one after the other
--   decimal_length-le     a number has at most 10 digits
--   decimal_text-le, limits_text-le     so a number takes at most 10 octets, and an answer 32
--   powers_more, powers_reached     how many digits, by a table of the powers of ten
--   Writing              what holds where the last digits of a number are written;  writing_start, -next, -end
-- Assumes nothing.
use Prim.Native.Nat.{ℕ, zero, suc, ◌+◌, ◌-◌, ◌/◌, ◌%◌, ◌^◌, ◌≤◌, ◌<◌}
use native.Mathlib.Nat.{div-one, div-div-eq-div-mul, pow-suc}
use native.Mathlib.Omega.{arith}
use mathlib.Core.Path.{◌≡◌, sym, ap, ap₂, ◌∙◌}
use mathlib.Core.Bool.{Bool, true, false, cond}
use mathlib.Core.List.{List, [], ◌∷◌, ◌++◌, append_assoc}
use lib.Dec.{leb}
use lib.ListN.{length, get_or, take, drop, set, length-append, length-set, drop_of_length-le}
use lib.Seq.{drop-cons, drop-set-lt, get_or-set_same}
use native.Mathlib.Decide.{dec_lt}
use borrow.Author.Tests.{le-leb, lt-leb}
use Rattle.std.specs.List.{count_by}
use Rattle.std.proofs.lemmas.List.Sums.{count_by_more_yes, count_by_more_no}
use Rattle.definitions.specs.Sequences.{sum, how_many, tabulate}
use Rattle.definitions.specs.Refusals.{Answer, untouched, refused, accepted}
use Rattle.definitions.specs.Parameters.{Limits}
use Rattle.definitions.specs.Roomsheet.{Text, decimal_length, decimal_text, limits_text}
use Rattle.definitions.proofs.Roomsheet.{digits, digits_suc, length-decimal_text}
use Rattle.roomsheet_print.specs.declared.Answers.{Answers}
use Rattle.roomsheet_print.specs.Appended.{Appended}

pub appended_append : (a b d : Answers) (s t : Text) → Appended a b s → Appended b d t → Appended a d (s ++ t)
appended_append a b d s t f g =
    record {
      held = g.held ∙ ap (λ (r : Text). r ++ t) f.held ∙ append_assoc (take a.at a.out.now) s t;
      end_is = omega (arith, f, g, length-append s t);
      room = g.room ∙ f.room;
      same_reference = g.same_reference ∙ f.same_reference;
    }

-- ---- how many digits

abbrev pub powers : List ℕ
powers = 10 ∷ 100 ∷ 1000 ∷ 10000 ∷ 100000 ∷ 1000000 ∷ 10000000 ∷ 100000000 ∷ 1000000000 ∷ []

pub powers_more : (x i digits next : ℕ) → digits ≡ count_by (λ p. leb p x) (take i powers) + 1 → i < 9
    → (get_or powers i 0 ≤ x → next ≡ digits + 1) → (x < get_or powers i 0 → next ≡ digits) → next ≡ count_by (λ p. leb p x) (take (i + 1) powers) + 1
powers_more x i digits next e h reached above =
    elim (dec_lt x (get_or powers i 0)) [
      | yes l ↦ omega (arith, above l, count_by_more_no (λ p. leb p x) powers i 0 h (lt-leb (get_or powers i 0) x l))
      | no g ↦ let le : get_or powers i 0 ≤ x = omega arith in
          omega (arith, reached le, count_by_more_yes (λ p. leb p x) powers i 0 h (le-leb (get_or powers i 0) x le))
    ]

pub powers_reached : (x i digits : ℕ) → digits ≡ count_by (λ p. leb p x) (take i powers) + 1 → i ≡ 9 → digits ≡ decimal_length x
unfolding decimal_length how_many sum
powers_reached x i digits e all = omega (arith, rw all at e)

one_or_none : (t : Bool) → cond t 1 0 ≤ 1
one_or_none true = omega arith
one_or_none false = omega arith

how_many-le : (n : ℕ) (f : ℕ → Bool) → how_many n f ≤ n
unfolding how_many sum
how_many-le zero f = omega arith
how_many-le (suc n) f = omega (arith, how_many-le n f, one_or_none (f n))

pub decimal_length-le : (x : ℕ) → decimal_length x ≤ 10
unfolding decimal_length
decimal_length-le x = omega (arith, how_many-le 9 (λ k. leb (10 ^ suc k) x))

pub decimal_text-le : (x : ℕ) → length (decimal_text x) ≤ 10
decimal_text-le x = omega (arith, length-decimal_text x, decimal_length-le x)

pub limits_text-le : (a : Answer Limits) → length (limits_text a) ≤ 32
unfolding limits_text
limits_text-le (untouched k) = omega (arith, decimal_text-le k)
limits_text-le (refused k) = omega (arith, decimal_text-le k)
limits_text-le (accepted x) =
    omega (
      arith,
      decimal_text-le 0,
      decimal_text-le x.bound,
      decimal_text-le x.headroom,
      length-append (decimal_text 0) (32 ∷ (decimal_text x.bound ++ (32 ∷ decimal_text x.headroom))),
      length-append (decimal_text x.bound) (32 ∷ decimal_text x.headroom),
    )

-- ---- the digits, from the last to the first

pub record Writing (octets : List ℕ) (x rest i : ℕ) : Type 0 where
  pub within : i ≤ length octets
  pub written : drop i octets ≡ digits (length octets - i) x
  pub rest_is : rest ≡ x / 10 ^ (length octets - i)

pub writing_start : (octets : List ℕ) (x : ℕ) → Writing octets x x (length octets)
unfolding tabulate
writing_start octets x =
    let none : length octets - length octets ≡ 0 = omega arith in
    record {
      within = omega arith;
      written = rw (none, drop_of_length-le octets {i = length octets} (omega arith));
      rest_is = rw none (sym (div-one x));
    }

pub writing_next : (octets : List ℕ) (x rest i : ℕ) → Writing octets x rest i → (j : ℕ) → i ≡ suc j
    → Writing (set octets j (48 + rest % 10)) x (rest / 10) j
writing_next octets x rest i w j e =
    let digit = 48 + rest % 10 in
    let size = length-set octets j digit in
    let more : length octets - j ≡ suc (length octets - i) = omega (arith, w.within) in
    let inside : j < length octets = omega (arith, w.within) in
    let stored : drop j (set octets j digit) ≡ digit ∷ drop i octets
    = drop-cons (set octets j digit) j 0 (rw size inside)
    ∙ ap₂ ◌∷◌ (get_or-set_same octets j digit 0 inside) (drop-set-lt (suc j) octets j digit (omega arith) ∙ ap (λ (n : ℕ). drop n octets) (sym e)) in
    record {
      within = rw size (omega arith);
      written = rw (size, more, stored, digits_suc (length octets - i) x)
          (ap₂ ◌∷◌ (ap (λ (n : ℕ). 48 + n % 10) w.rest_is) w.written);
      rest_is = rw (size, more, w.rest_is, pow-suc 10 (length octets - i)) (div-div-eq-div-mul x (10 ^ (length octets - i)) 10);
    }

pub writing_end : (octets : List ℕ) (x rest i : ℕ) → Writing octets x rest i → i ≤ 0 → length octets ≡ decimal_length x → octets ≡ decimal_text x
unfolding decimal_text
writing_end octets x rest i w h e =
    let first : i ≡ 0 = omega arith in
    let all : length octets - i ≡ decimal_length x = omega arith in
    rw (all, first) at w.written

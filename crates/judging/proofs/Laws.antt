-- Why judging each coefficient in turn gives the answer for all: a list fits just where what stands before a place fits and the number there does.
--
--   coefficients_fit-..  of a list and one more; of two lists end to end
--   fit_number-..        the answers
--   octets_.., words_..  one coefficient more; all
--   several_..           several coefficients, judged at once
--   reading_..           what reading a coefficient tells of those up to it
--   bits_..              the bits set in any of some words are below a power of two just where all of the words are
-- Assumes nothing.
use Prim.Native.Nat.{ℕ, suc, ◌+◌, ◌-◌, ◌*◌, ◌/◌, ◌^◌, ◌≤◌, ◌<◌}
use mathlib.Core.Path.{◌≡◌, refl, sym, ap, ◌∙◌}
use mathlib.Core.Bool.{Bool, true, false, ◌&&◌, not, and-true, and-false, and_assoc}
use mathlib.Core.List.{List, [], ◌∷◌, ◌++◌, append_assoc, append-nil}
use native.Mathlib.Nat.{le_trans}
use Rattle.std.proofs.Math.Nat.{le-div_iff_mul-le}
use native.Mathlib.Numerals.{add-one}
use native.Mathlib.Decide.{dec_lt}
use native.Mathlib.Omega.{arith}
use lib.Dec.{ltb}
use lib.ListN.{length, get_or, take, drop, length-append, length-drop, get_or-append, take-append-drop}
use lib.Seq.{take_all, take-suc, take-add, get_or-append_seam}
use lib.Pow.{pow_pos}
use lib.Bits.{bit_or, or_lt, or_add_and, and_le_r, or_comm}
use borrow.Author.Tests.{lt-ltb, le-ltb}
use Rattle.std.specs.Prelude.{Option, Some, None}
use Rattle.definitions.specs.Sequences.{every, tabulate}
use Rattle.definitions.specs.Refusals.{refuse, first_refusal, accepted, refused, answer}
use Rattle.definitions.specs.Octets.{coefficient_at, decoded, coefficients_fit}
use Rattle.definitions.proofs.Sums.{every_cong}
use Rattle.definitions.proofs.Filling.{tabulate_snoc, tabulate-add}
use Rattle.judging.specs.Reading.{reading_as, coefficient_answer, fit_number}
use Rattle.judging.proofs.Judged.{number-zero}

-- ---- lists that fit

coefficients_fit_snoc : (q : ℕ) (xs : List ℕ) (x : ℕ) → coefficients_fit q (xs ++ (x ∷ [])) ≡ (coefficients_fit q xs && ltb x q)
unfolding coefficients_fit every
coefficients_fit_snoc q xs x =
    let e : length (xs ++ (x ∷ [])) ≡ suc (length xs) = omega (arith, length-append xs (x ∷ [])) in
    rw (
      e,
      get_or-append_seam xs x [] 0,
      every_cong (length xs) {f = λ m. ltb (get_or (xs ++ (x ∷ [])) m 0) q} {g = λ m. ltb (get_or xs m 0) q} (λ k l. rw (get_or-append xs (x ∷ []) 0 k l)),
    )

pub coefficients_fit_none : (q : ℕ) → coefficients_fit q [] ≡ true
unfolding coefficients_fit every
coefficients_fit_none q = refl

coefficients_fit-one : (q x : ℕ) → coefficients_fit q (x ∷ []) ≡ ltb x q
coefficients_fit-one q x = coefficients_fit_snoc q [] x ∙ rw (coefficients_fit_none q)

pub coefficients_fit-append : (q : ℕ) (ys xs : List ℕ) → coefficients_fit q (xs ++ ys) ≡ (coefficients_fit q xs && coefficients_fit q ys)
coefficients_fit-append q [] xs = rw (append-nil xs, coefficients_fit_none q, and-true (coefficients_fit q xs))
coefficients_fit-append q (y ∷ ys) xs =
    let first : coefficients_fit q (y ∷ ys) ≡ (ltb y q && coefficients_fit q ys) = coefficients_fit-append q ys (y ∷ []) ∙ rw (coefficients_fit-one q y) in
    rw (first, ← append_assoc xs (y ∷ []) ys, coefficients_fit-append q ys (xs ++ (y ∷ [])), coefficients_fit_snoc q xs y)
    (and_assoc (coefficients_fit q xs) (ltb y q) (coefficients_fit q ys))

-- ---- answers

pub fit_number-zero : (q : ℕ) (xs : List ℕ) → coefficients_fit q xs ≡ true → 0 ≡ fit_number q xs
unfolding fit_number
fit_number-zero q xs e = number-zero e

pub fit_number_eight : (q : ℕ) (xs : List ℕ) → coefficients_fit q xs ≡ false → 8 ≡ fit_number q xs
unfolding fit_number first_refusal
fit_number_eight q xs e = rw e

-- ---- coefficients in octets

pub octets_none : (q qlen : ℕ) (octets : List ℕ) → coefficients_fit q (decoded qlen 0 octets) ≡ true
unfolding decoded tabulate
octets_none q qlen octets = coefficients_fit_none q

-- one that does not fit settles the answer
pub octets_spoiled : (q qlen : ℕ) (octets : List ℕ) {m count : ℕ} → m ≤ count → coefficients_fit q (decoded qlen m octets) ≡ false
    → coefficients_fit q (decoded qlen count octets) ≡ false
unfolding decoded
octets_spoiled q qlen octets {m} {count} h f =
    let rest : List ℕ = tabulate (count - m) (λ j. coefficient_at qlen octets (m + j)) in
    let end : count ≡ m + (count - m) = omega arith in
    let parts : decoded qlen count octets ≡ decoded qlen m octets ++ rest =
    ap (λ (n : ℕ). tabulate n (coefficient_at qlen octets)) end ∙ tabulate-add m (count - m) (coefficient_at qlen octets) in
    rw (parts, coefficients_fit-append q rest (decoded qlen m octets), f)

module _ (q qlen : ℕ) (octets : List ℕ) (m : ℕ) where
  pub octets_next : coefficients_fit q (decoded qlen (m + 1) octets) ≡ (coefficients_fit q (decoded qlen m octets) && ltb (coefficient_at qlen octets m) q)
  unfolding decoded
  octets_next = rw (add-one m, tabulate_snoc m (coefficient_at qlen octets)) (coefficients_fit_snoc q (tabulate m (coefficient_at qlen octets)) (coefficient_at qlen octets m))

  module _ {r : Option ℕ} (e : reading_as r ≡ coefficient_answer q (coefficient_at qlen octets m)) where
    pub reading_below : {v : ℕ} → r ≡ Some v → v ≡ coefficient_at qlen octets m
    unfolding coefficient_answer answer first_refusal
    reading_below {v} h = go (ltb (coefficient_at qlen octets m) q) (sym (ap reading_as h) ∙ e)
      where
        go : (t : Bool) → accepted v ≡ answer [] (refuse 8 (not t) ∷ []) (coefficient_at qlen octets m) → v ≡ coefficient_at qlen octets m
        go true e = cc
        go false e = cc

    pub reading_fits : {v : ℕ} → r ≡ Some v → coefficients_fit q (decoded qlen m octets) ≡ true → coefficients_fit q (decoded qlen (m + 1) octets) ≡ true
    unfolding coefficient_answer answer first_refusal
    reading_fits {v} h before = rw (octets_next, before) (go (ltb (coefficient_at qlen octets m) q) (sym (ap reading_as h) ∙ e))
      where
        go : (t : Bool) → accepted v ≡ answer [] (refuse 8 (not t) ∷ []) (coefficient_at qlen octets m) → t ≡ true
        go true e = refl
        go false e = cc

    pub reading_large : r ≡ None → {count : ℕ} → m + 1 ≤ count → 8 ≡ fit_number q (decoded qlen count octets)
    unfolding coefficient_answer answer first_refusal
    reading_large h more =
        fit_number_eight q _
        (octets_spoiled q qlen octets more (rw (octets_next, go (ltb (coefficient_at qlen octets m) q) (sym (ap reading_as h) ∙ e)) (and-false (coefficients_fit q (decoded qlen m octets)))))
      where
        go : (t : Bool) → refused 8 ≡ answer [] (refuse 8 (not t) ∷ []) (coefficient_at qlen octets m) → t ≡ false
        go true e = cc
        go false e = refl

-- ---- several at once

abbrev pub coefficients_from : ℕ → List ℕ → ℕ → ℕ → List ℕ
coefficients_from qlen octets m k = tabulate k (λ j. coefficient_at qlen octets (m + j))

pub several_none : (q qlen : ℕ) (octets : List ℕ) (m : ℕ) → coefficients_fit q (coefficients_from qlen octets m 0) ≡ true
unfolding tabulate
several_none q qlen octets m = coefficients_fit_none q

module _ (q qlen : ℕ) (octets : List ℕ) (m k : ℕ) where
  pub several_next : coefficients_fit q (coefficients_from qlen octets m (k + 1)) ≡ (coefficients_fit q (coefficients_from qlen octets m k) && ltb (coefficient_at qlen octets (m + k)) q)
  several_next =
      rw (add-one k, tabulate_snoc k (λ j. coefficient_at qlen octets (m + j)))
      (coefficients_fit_snoc q (coefficients_from qlen octets m k) (coefficient_at qlen octets (m + k)))

  pub octets_several : coefficients_fit q (decoded qlen (m + k) octets) ≡ (coefficients_fit q (decoded qlen m octets) && coefficients_fit q (coefficients_from qlen octets m k))
  unfolding decoded
  octets_several =
      rw (tabulate-add m k (coefficient_at qlen octets))
      (coefficients_fit-append q (coefficients_from qlen octets m k) (tabulate m (coefficient_at qlen octets)))

  pub octets_more : coefficients_fit q (decoded qlen m octets) ≡ true → coefficients_fit q (coefficients_from qlen octets m k) ≡ true
      → coefficients_fit q (decoded qlen (m + k) octets) ≡ true
  octets_more e f = rw (octets_several, e, f)

  pub several_spoiled : {count : ℕ} → m + k ≤ count → coefficients_fit q (coefficients_from qlen octets m k) ≡ false → coefficients_fit q (decoded qlen count octets) ≡ false
  several_spoiled h f = octets_spoiled q qlen octets h (rw (octets_several, f) (and-false (coefficients_fit q (decoded qlen m octets))))

-- where the octets of several coefficients lie, each read as four octets, of which those past its own may be the next one's
module _ (qlen total : ℕ) (least : 1 ≤ qlen) (few : qlen ≤ 4) where
  several_end : (turn : ℕ) → turn < (total - (4 - qlen)) / (64 * qlen) → (turn + 1) * (64 * qlen) ≤ total - (4 - qlen)
  several_end turn more = (le-div_iff_mul-le (omega arith)).0 (omega arith)

  pub several_inside : (turn : ℕ) → turn < (total - (4 - qlen)) / (64 * qlen) → (turn * 64 + 63) * qlen + 4 ≤ total
  several_inside turn more = omega (arith, several_end turn more)

  pub several_count : (turn : ℕ) → turn ≤ (total - (4 - qlen)) / (64 * qlen) → turn * 64 ≤ total / qlen
  several_count turn most =
      let inside : turn * (64 * qlen) ≤ total - (4 - qlen) = (le-div_iff_mul-le (omega arith)).0 most in
      (le-div_iff_mul-le least).1 (omega (arith, inside))

-- ---- coefficients in words

pub words_next : (q : ℕ) (words : List ℕ) (m : ℕ) → m < length words
    → coefficients_fit q (take (m + 1) words) ≡ (coefficients_fit q (take m words) && ltb (get_or words m 0) q)
words_next q words m h = rw (add-one m, take-suc words m 0 h) (coefficients_fit_snoc q (take m words) (get_or words m 0))

module _ (q : ℕ) (words : List ℕ) (m k : ℕ) where
  words_several : coefficients_fit q (take (m + k) words) ≡ (coefficients_fit q (take m words) && coefficients_fit q (take k (drop m words)))
  words_several = rw (take-add m k words) (coefficients_fit-append q (take k (drop m words)) (take m words))

  pub words_more : coefficients_fit q (take m words) ≡ true → coefficients_fit q (take k (drop m words)) ≡ true → coefficients_fit q (take (m + k) words) ≡ true
  words_more e f = rw (words_several, e, f)

  pub words_spoiled : coefficients_fit q (take k (drop m words)) ≡ false → coefficients_fit q words ≡ false
  words_spoiled f =
      let none : coefficients_fit q (take (m + k) words) ≡ false = rw (words_several, f) (and-false (coefficients_fit q (take m words))) in
      ap (coefficients_fit q) (sym (take-append-drop (m + k) words)) ∙ rw (coefficients_fit-append q (drop (m + k) words) (take (m + k) words), none)

pub words_rest : (q : ℕ) (words : List ℕ) (m : ℕ) → coefficients_fit q (take m words) ≡ true
    → coefficients_fit q (take (length words - m) (drop m words)) ≡ coefficients_fit q words
words_rest q words m e =
    let whole : coefficients_fit q words ≡ coefficients_fit q (drop m words) =
    ap (coefficients_fit q) (sym (take-append-drop m words)) ∙ rw (coefficients_fit-append q (drop m words) (take m words), e) in
    rw (take_all (length words - m) (drop m words) (omega (arith, length-drop m words))) (sym whole)

-- ---- bits

le_or_l : (x y : ℕ) → x ≤ bit_or x y
le_or_l x y = omega (arith, or_add_and x y, and_le_r x y)

le_or_r : (x y : ℕ) → y ≤ bit_or x y
le_or_r x y = rw (or_comm x y) (le_or_l y x)

or_ltb : (b x y : ℕ) → ltb (bit_or x y) (2 ^ b) ≡ (ltb x (2 ^ b) && ltb y (2 ^ b))
or_ltb b x y =
    elim (dec_lt x (2 ^ b)) [
      | no g ↦ let h : 2 ^ b ≤ x = omega arith in rw (le-ltb x (2 ^ b) h) (le-ltb (bit_or x y) (2 ^ b) (le_trans h (le_or_l x y)))
      | yes l ↦ elim (dec_lt y (2 ^ b)) [
        | no g ↦ let h : 2 ^ b ≤ y = omega arith in rw (le-ltb y (2 ^ b) h, and-false (ltb x (2 ^ b))) (le-ltb (bit_or x y) (2 ^ b) (le_trans h (le_or_r x y)))
        | yes r ↦ rw (lt-ltb x (2 ^ b) l, lt-ltb y (2 ^ b) r) (lt-ltb (bit_or x y) (2 ^ b) (or_lt b x y l r))
      ]
    ]

pub bits_none : (b : ℕ) → ltb 0 (2 ^ b) ≡ coefficients_fit (2 ^ b) []
bits_none b = rw (coefficients_fit_none (2 ^ b)) (lt-ltb 0 (2 ^ b) (pow_pos b))

pub bits_step : (b bits : ℕ) (words : List ℕ) (m : ℕ) → m < length words → ltb bits (2 ^ b) ≡ coefficients_fit (2 ^ b) (take m words)
    → ltb (bit_or bits (get_or words m 0)) (2 ^ b) ≡ coefficients_fit (2 ^ b) (take (m + 1) words)
bits_step b bits words m h e =
    rw (add-one m, take-suc words m 0 h, coefficients_fit_snoc (2 ^ b) (take m words) (get_or words m 0), ← e) (or_ltb b bits (get_or words m 0))

-- How a text falls into parts at its separators: by its first part, part after part.
--
--   up_to_hit, up_to_miss      the first part of a text whose first octet is the separator, or is not
--   up_to-drop_..             the same at a place of a list
--   length-up_to_first        how long it is, by where the first separator stands
--   up_to-append, past-append a front without separators stays in the first part
--   take-up_to, past-drop     the first part and the octets after it, by their length
--   up_to-past                both, with the separator between
--   without_take             a front of a text without separators has none
--   split_more, split_last   the parts of a text, by its first part
--   lines_of-cons             the lines of a text that is not empty, by its first
-- Assumes nothing.
use Prim.Native.Nat.{ℕ, zero, suc, ◌+◌, ◌≤◌, ◌<◌}
use native.Mathlib.Numerals.{add-one}
use native.Mathlib.Decide.{ℕ_discrete}
use native.Mathlib.Omega.{arith}
use mathlib.Core.Path.{◌≡◌, refl, sym, ap, ◌∙◌}
use mathlib.Core.List.{[], ◌∷◌, ◌++◌, append-nil}
use lib.ListN.{length, get_or, take, drop, drop_of_length-le}
use lib.Seq.{drop-cons, take-length}
use borrow.Author.Tests.{eq-eqb, ne_eqb}
use Rattle.std.specs.List.{AllWithin, HoldsAt}
use Rattle.std.specs.Prelude.{Option}
use Rattle.std.specs.Option.{MatchOption, unwrap_or}
use Rattle.std.proofs.lemmas.Iterator.{index_from_first}
use Rattle.definitions.specs.Roomsheet.{Text, in_front, split, lines_of}
use Rattle.roomsheet_parse.specs.Parts.{up_to, past, Without}

pub up_to_hit : {s c : ℕ} (t : Text) → c ≡ s → up_to s (c ∷ t) ≡ []
unfolding up_to
up_to_hit {s} {c} t e = rw (eq-eqb c s e)

pub up_to_miss : {s c : ℕ} (t : Text) → (c ≡ s → ⊥) → up_to s (c ∷ t) ≡ c ∷ up_to s t
unfolding up_to
up_to_miss {s} {c} t n = rw (ne_eqb c s n)

pub past_hit : {s c : ℕ} (t : Text) → c ≡ s → past s (c ∷ t) ≡ t
unfolding past
past_hit {s} {c} t e = rw (eq-eqb c s e)

pub past_miss : {s c : ℕ} (t : Text) → (c ≡ s → ⊥) → past s (c ∷ t) ≡ past s t
unfolding past
past_miss {s} {c} t n = rw (ne_eqb c s n)

-- ---- at a place of a list

module _ (s : ℕ) (l : Text) (i : ℕ) where
  pub up_to-drop_end : length l ≤ i → up_to s (drop i l) ≡ []
  unfolding up_to
  up_to-drop_end h = rw (drop_of_length-le l h)

  pub up_to-drop_hit : i < length l → get_or l i 0 ≡ s → up_to s (drop i l) ≡ []
  up_to-drop_hit h e = rw (drop-cons l i 0 h) (up_to_hit (drop (suc i) l) e)

  pub up_to-drop_miss : i < length l → (get_or l i 0 ≡ s → ⊥) → up_to s (drop i l) ≡ get_or l i 0 ∷ up_to s (drop (i + 1) l)
  up_to-drop_miss h n = rw (drop-cons l i 0 h, add-one i) (up_to_miss (drop (suc i) l) n)

-- the first octet that is the separator stands behind the first part
pub length-up_to_first : (s : ℕ) (t : Text) (r : Option ℕ) → MatchOption r (AllWithin (λ c. c ≡ s → ⊥) t 0 (length t)) (λ i. (i < length t) × HoldsAt (λ c. c ≡ s) t i × AllWithin (λ c. c ≡ s → ⊥) t 0 i) → length (up_to s t) ≡ unwrap_or r (length t)
length-up_to_first s t r found =
    index_from_first (λ u. length (up_to s u)) (λ c. c ≡ s) (λ c. c ≡ s → ⊥) (unfold up_to in refl) (λ c u e. ap length (up_to_hit u e))
    (λ c u n. ap length (up_to_miss u n) ∙ sym (add-one _)) t r found

-- ---- the first part and the rest

pub without_cons : {s c : ℕ} {a : Text} → Without s (c ∷ a) → (c ≡ s → ⊥) × Without s a
without_cons {s} {c} {a} w =
    elim (ℕ_discrete c s) [
      | yes e ↦ let z : ⊥ = omega (arith, ap length (sym (up_to_hit a e) ∙ w)) in absurd z
      | no n ↦ (n, (let f : c ∷ up_to s a ≡ c ∷ a = sym (up_to_miss a n) ∙ w in cc))
    ]

module _ (s : ℕ) where
  pub up_to-append : (a t : Text) → Without s a → up_to s (a ++ t) ≡ a ++ up_to s t
  up_to-append [] t w = refl
  up_to-append (c ∷ a) t w =
      let both = without_cons w in
      up_to_miss (a ++ t) both.0 ∙ ap (λ (r : Text). c ∷ r) (up_to-append a t both.1)

  pub past-append : (a t : Text) → Without s a → past s (a ++ t) ≡ past s t
  past-append [] t w = refl
  past-append (c ∷ a) t w =
      let both = without_cons w in
      past_miss (a ++ t) both.0 ∙ past-append a t both.1

  pub length-up_to : (t : Text) → length (up_to s t) ≤ length t
  length-up_to [] = unfold up_to in omega arith
  length-up_to (c ∷ t) =
      elim (ℕ_discrete c s) [
        | yes e ↦ rw (up_to_hit t e) (omega arith)
        | no n ↦ rw (up_to_miss t n) (omega (arith, length-up_to t))
      ]

  pub take-up_to : (t : Text) → take (length (up_to s t)) t ≡ up_to s t
  take-up_to [] = unfold up_to in refl
  take-up_to (c ∷ t) =
      elim (ℕ_discrete c s) [
        | yes e ↦ rw (up_to_hit t e)
        | no n ↦ rw (up_to_miss t n) (ap (λ (r : Text). c ∷ r) (take-up_to t))
      ]

  -- the first part has no separator
  pub up_to_without : (t : Text) → Without s (up_to s t)
  up_to_without [] = unfold up_to in refl
  up_to_without (c ∷ t) =
      elim (ℕ_discrete c s) [
        | yes e ↦ unfold up_to in rw (eq-eqb c s e)
        | no n ↦ ap (up_to s) (up_to_miss t n) ∙ up_to_miss (up_to s t) n ∙ ap (λ (r : Text). c ∷ r) (up_to_without t) ∙ sym (up_to_miss t n)
      ]

  pub past-drop : (t : Text) → length (up_to s t) < length t → past s t ≡ drop (suc (length (up_to s t))) t
  past-drop [] h = let z : ⊥ = omega arith in absurd z
  past-drop (c ∷ t) h =
      elim (ℕ_discrete c s) [
        | yes e ↦ rw (up_to_hit t e) (past_hit t e)
        | no n ↦ rw (up_to_miss t n) (past_miss t n ∙ past-drop t (omega (arith, ap length (up_to_miss t n))))
      ]

  -- a first part as long as the text is the text
  pub up_to-whole : (t : Text) → length (up_to s t) ≡ length t → Without s t
  up_to-whole t e = sym (take-up_to t) ∙ rw e (take-length t)

  pub past-whole : (t : Text) → Without s t → past s t ≡ []
  unfolding past
  past-whole t w = ap (past s) (sym (append-nil t)) ∙ past-append t [] w

  -- a text is its first part, a separator and the rest
  pub up_to-past : (t : Text) → length (up_to s t) < length t → t ≡ up_to s t ++ (s ∷ past s t)
  up_to-past [] h = let z : ⊥ = omega arith in absurd z
  up_to-past (c ∷ t) h =
      elim (ℕ_discrete c s) [
        | yes e ↦ rw (up_to_hit t e, past_hit t e, e)
        | no n ↦ rw (up_to_miss t n, past_miss t n) (ap (λ (r : Text). c ∷ r) (up_to-past t (omega (arith, ap length (up_to_miss t n)))))
      ]

  pub without_take : (n : ℕ) (t : Text) → Without s t → Without s (take n t)
  without_take zero t w = unfold up_to in refl
  without_take (suc n) [] w = w
  without_take (suc n) (c ∷ t) w =
      let both = without_cons w in
      up_to_miss (take n t) both.0 ∙ ap (λ (r : Text). c ∷ r) (without_take n t both.1)

  -- ---- the parts of a text

  pub split_last : (t : Text) → Without s t → split s t ≡ t ∷ []
  unfolding split in_front
  split_last [] w = refl
  split_last (c ∷ t) w =
      let both = without_cons w in
      rw (ne_eqb c s both.0, split_last t both.1)

  pub split_more : (t : Text) → length (up_to s t) < length t → split s t ≡ up_to s t ∷ split s (past s t)
  unfolding split in_front
  split_more [] h = let z : ⊥ = omega arith in absurd z
  split_more (c ∷ t) h =
      elim (ℕ_discrete c s) [
        | yes e ↦ rw (up_to_hit t e, past_hit t e, eq-eqb c s e)
        | no n ↦ rw (up_to_miss t n, past_miss t n, ne_eqb c s n, split_more t (omega (arith, ap length (up_to_miss t n))))
      ]

-- the lines of a text that is not empty
pub lines_of-cons : (c : ℕ) (t : Text) → lines_of (c ∷ t) ≡ up_to 10 (c ∷ t) ∷ lines_of (past 10 (c ∷ t))
unfolding lines_of in_front up_to past
lines_of-cons c [] =
    elim (ℕ_discrete c 10) [
      | yes e ↦ rw (eq-eqb c 10 e)
      | no n ↦ rw (ne_eqb c 10 n)
    ]
lines_of-cons c (d ∷ t) =
    elim (ℕ_discrete c 10) [
      | yes e ↦ rw (up_to_hit (d ∷ t) e, past_hit (d ∷ t) e, eq-eqb c 10 e)
      | no n ↦ rw (up_to_miss (d ∷ t) n, past_miss (d ∷ t) n, ne_eqb c 10 n) (ap (in_front c) (lines_of-cons d t))
    ]

-- Why what is drawn stands where it should: each draw is lent just its own words, behind those that were drawn before.
--
--   terms_end-room        the words of the terms, and one element more, lie inside the work words
--   drawn_end-first, drawn_end-second   in edition 2 one element more is drawn;  drawn_end-room: all that is drawn lies inside the work words
--   elements_drawn       how many elements are drawn, by the edition's number
--   terms-front          the terms stand in front of what is drawn
--   half_drawn           a draw lent the words of a half leaves its element there;  halves_kept: both halves where they are as they were
--   key_words            what is asked of the work words holds once all is drawn
--   terms_drawn          a run of draws lent the words for the key leaves what it drew there, and u_x and u_y as they were
-- Assumes nothing.
use Prim.Native.Nat.{ℕ, ◌+◌, ◌-◌, ◌*◌, ◌≤◌}
use native.Mathlib.Nat.{mul-le-mul_right}
use native.Mathlib.Omega.{arith}
use mathlib.Core.Path.{◌≡◌, refl, ap, ap₂, subst, ◌∙◌}
use mathlib.Core.Bool.{Bool, true, false}
use mathlib.Core.Logic.{⊎_elim}
use mathlib.Core.List.{List, [], ◌∷◌}
use lib.Dec.{eqb}
use borrow.Author.Tests.{eq-eqb, ne_eqb}
use lib.ListN.{length, take}
use lib.Seq.{slice}
use borrow.Rule.Slice.PartMut.{mid_of, put_mid, mid_len}
use Rattle.definitions.specs.Parameters.{Parameters, monomial_count}
use Rattle.definitions.specs.Draws.{Drawn, draws_below}
use Rattle.definitions.specs.Calls.{half_draws, drawn_x, drawn_y, key_elements, key_coefficients, term_coefficients, key_terms, key_draws}
use Rattle.definitions.specs.Demand3.{InSmallRing}
use Rattle.definitions.proofs.Parameters.{Accepted}
use Rattle.definitions.proofs.Monomials.{count-suc}
use Rattle.definitions.proofs.Octets.{coefficients_fit_true}
use Rattle.definitions.proofs.MadeKeys.{key_elements-least, key_terms-below, halves_small}
use Rattle.draws.specs.Runs.{said, drawn_answer}
use Rattle.std.specs.Prelude.{Result}
use Rattle.parameters.specs.declared.refusals.Refusal.{Refusal}
use Rattle.draws.specs.declared.Run.{Run}
use Rattle.key_draws.specs.Keys.{Follows, terms_end, drawn_end, words_halves, words_terms, words_drawn, KeyWords}
use Rattle.key_draws.proofs.Parts.{put_follows, follows_slice, follows_kept, slice_kept, slice_front}

-- `drawn_end` is right because edition 2 draws one element more than the terms, and the work words have room for it
pub elements_first : (p : Parameters) → (p.edition ≡ 2 → ⊥) → key_elements p ≡ monomial_count p.dx - 1
unfolding key_elements
elements_first p e = rw (ne_eqb _ 2 e)

pub elements_second : (p : Parameters) (n : ℕ) → p.edition ≡ 2 → key_elements p * n ≡ (monomial_count p.dx - 1) * n + n
unfolding key_elements
elements_second p n e = rw (eq-eqb _ 2 e) (omega (arith, ap (λ (m : ℕ). m * n) (count-suc p.dx)))

pub ruleset elements_drawn = (elements_first, elements_second)

module _ (p : Parameters) (a : Accepted p) where
  pub others_most : monomial_count p.dx - 1 ≤ 5
  unfolding monomial_count
  others_most = ⊎_elim (λ e. rw e (omega arith)) (λ e. rw e (omega arith)) a.key-degree

  pub terms_end-room : terms_end p + p.n ≤ 8 * p.n
  terms_end-room = omega (arith, mul-le-mul_right p.n others_most)

  pub drawn_end-first : eqb p.edition 2 ≡ false → terms_end p ≡ drawn_end p
  unfolding key_elements
  drawn_end-first e = rw e

  pub drawn_end-second : eqb p.edition 2 ≡ true → terms_end p + p.n ≡ drawn_end p
  unfolding key_elements
  drawn_end-second e = rw e (omega (arith, ap (λ (m : ℕ). m * p.n) (count-suc p.dx)))

  drawn_end-room : drawn_end p ≤ 8 * p.n
  drawn_end-room = go (eqb p.edition 2) refl
    where
      go : (t : Bool) → eqb p.edition 2 ≡ t → drawn_end p ≤ 8 * p.n
      go true e = omega (arith, drawn_end-second e, terms_end-room)
      go false e = omega (arith, drawn_end-first e, terms_end-room)

  pub terms-front : (work : List ℕ) → length work ≡ 8 * p.n → take (term_coefficients p) (words_drawn p work) ≡ words_terms p work
  terms-front work sized =
      slice_front (p.n + p.n) (term_coefficients p) (drawn_end p) work (omega (arith, mul-le-mul_right p.n (key_elements-least p)))
      (omega (arith, drawn_end-room))

-- a draw lent the words from a place on leaves its element there, and what stood before them
pub half_drawn : (p : Parameters) (work words : List ℕ) (outcome : Result Run Refusal) (drawn : Drawn (List ℕ)) (at : ℕ) → at + p.n ≤ length work
    → length words ≡ length (mid_of at (at + p.n - at) work) → said outcome (words ∷ []) ≡ drawn_answer drawn
    → (said outcome (slice at (at + p.n) (put_mid at (at + p.n - at) work words) ∷ []) ≡ drawn_answer drawn)
    × (take at (put_mid at (at + p.n - at) work words) ≡ take at work)
half_drawn p work words outcome drawn at room sized told =
    let given : List ℕ = put_mid at (at + p.n - at) work words in
    let f : Follows at (at + p.n) words work given = put_follows at (at + p.n) work (omega arith) room words sized in (
      ap (λ (w : List ℕ). said outcome (w ∷ [])) (follows_slice at (at + p.n) words work given (omega arith) f) ∙ told,
      follows_kept at (at + p.n) words work given (omega arith) f (omega arith),
    )

-- words of the first two parts that are as they were
pub halves_kept : (p : Parameters) (old work : List ℕ) → take (p.n + p.n) work ≡ take (p.n + p.n) old → words_halves p work ≡ words_halves p old
halves_kept p old work kept =
    ap₂ (λ (x y : List ℕ). x ∷ y ∷ []) (slice_kept 0 p.n (p.n + p.n) old work (omega arith) kept)
    (slice_kept p.n (p.n + p.n) (p.n + p.n) old work (omega arith) kept)

pub key_words : (p : Parameters) (random work : List ℕ) {groups dropped : ℕ} → Accepted p → length work ≡ 8 * p.n
    → half_draws p random ≡ record { values = words_halves p work; groups = groups; dropped = dropped; enough = true }
    → words_terms p work ≡ key_terms p (key_draws p random) → KeyWords p work
key_words p random work set sized halves terms =
    let settled : (half_draws p random).enough ≡ true = ap (λ (d : Drawn (List ℕ)). d.enough) halves in
    let small = halves_small p set random settled in
    record {
      sized = sized;
      x = subst (λ (d : Drawn (List ℕ)). InSmallRing p (drawn_x d)) halves small.0;
      y = subst (λ (d : Drawn (List ℕ)). InSmallRing p (drawn_y d)) halves small.1;
      terms = rw terms (coefficients_fit_true p.q (key_terms p (key_draws p random)) (key_terms-below p random));
    }

-- a run of draws lent the words for the key
pub terms_drawn : (p : Parameters) (random work words : List ℕ) (outcome : Result Run Refusal) {stop : ℕ} → stop ≡ drawn_end p → stop ≤ length work
    → length words ≡ length (mid_of (p.n + p.n) (stop - (p.n + p.n)) work)
    → said outcome words ≡ drawn_answer (draws_below p.q (length (mid_of (p.n + p.n) (stop - (p.n + p.n)) work)) random)
    → (said outcome (words_drawn p (put_mid (p.n + p.n) (stop - (p.n + p.n)) work words)) ≡ drawn_answer (draws_below p.q (key_coefficients p) random))
    × (take (p.n + p.n) (put_mid (p.n + p.n) (stop - (p.n + p.n)) work words) ≡ take (p.n + p.n) work)
terms_drawn p random work words outcome {stop} e room sized told =
    let at : ℕ = p.n + p.n in
    let more : at ≤ stop = omega arith in
    let given : List ℕ = put_mid at (stop - at) work words in
    let count : length (mid_of at (stop - at) work) ≡ key_coefficients p = mid_len at stop work room ∙ omega arith in
    let f : Follows at stop words work given = put_follows at stop work more room words sized in (
      rw (← e)
          (ap (λ (w : List ℕ). said outcome w) (follows_slice at stop words work given (omega arith) f)
          ∙ told ∙ ap (λ (m : ℕ). drawn_answer (draws_below p.q m random)) count),
      follows_kept at stop words work given (omega arith) f more,
    )

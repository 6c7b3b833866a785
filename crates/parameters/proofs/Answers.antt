-- What the constructor's answer tells of the set that the numbers given name.
--
--   checked_accepted     an accepted set passes every test, and is the one named
--   checked_fits         so the set that came back does
--   checked_refused      a refusal is the number of the first test that applies, and not 0
--   refusal-some         no refusal's number is 0
--   ok-number            so an outcome is Ok just where its number is 0
--   accepted-answer, refused-answer     so what a call with no later test answers for the set: its values, or the refusal
-- Assumes nothing.
use Prim.Native.Nat.{ℕ, zero, suc}
use native.Mathlib.Omega.{arith}
use mathlib.Core.Path.{◌≡◌, refl, sym, ap, ◌∙◌}
use mathlib.Core.List.{[]}
use borrow.Author.Tests.{ne_eqb}
use lib.Dec.{eqb}
use Rattle.std.specs.Result.{is_ok}
use Rattle.std.specs.Prelude.{Result, Ok, Err}
use Rattle.definitions.specs.Refusals.{untouched, accepted, first_refusal, answer_of, answer}
use Rattle.definitions.specs.Parameters.{Parameters, set_tests}
use Rattle.definitions.specs.Demand3.{AcceptedSet}
use Rattle.definitions.proofs.Refusals.{answer-accepted, answer-untouched_at, answer-accepted_only}
use Rattle.parameters.specs.Answers.{set_from, set_answer, checked_as}
use Rattle.parameters.specs.Refusals.{refusal_number, number_in}
use Rattle.parameters.specs.declared.Parameters as Struct
use Rattle.parameters.specs.declared.refusals.Refusal.{Refusal}
use Rattle.parameters.specs.declared.refusals.Refusal.TheVariants.{Range, Ring, Degree, Modulus, MessageSize, Length, Padding, Coefficient, Exhausted, Tail, Line, TopCoefficient, Edition}

pub refusal-some : (refusal : Refusal) → refusal_number refusal ≡ 0 → ⊥
refusal-some Range e = omega (arith, e)
refusal-some Ring e = omega (arith, e)
refusal-some Degree e = omega (arith, e)
refusal-some Modulus e = omega (arith, e)
refusal-some MessageSize e = omega (arith, e)
refusal-some Length e = omega (arith, e)
refusal-some Padding e = omega (arith, e)
refusal-some Coefficient e = omega (arith, e)
refusal-some Exhausted e = omega (arith, e)
refusal-some Tail e = omega (arith, e)
refusal-some Line e = omega (arith, e)
refusal-some TopCoefficient e = omega (arith, e)
refusal-some Edition e = omega (arith, e)

pub ok-number : {A : Type 0} (outcome : Result A Refusal) → is_ok outcome ≡ eqb (number_in outcome) 0
ok-number (Ok a) = refl
ok-number (Err refusal) = sym (ne_eqb (refusal_number refusal) 0 (refusal-some refusal))

untouched_only : {A : Type 0} (m k : ℕ) (a : A) → untouched k ≡ answer_of m 0 a → (k ≡ m) × (k ≡ 0 → ⊥)
untouched_only zero k a e = let z : ◌≡◌ {A = ℕ} 0 1 = cc in let w : ⊥ = omega arith in absurd w
untouched_only (suc m) k a e = let same : k ≡ suc m = cc in (same, λ z. omega arith)

module _ (s : Parameters) {r : Result Struct.Parameters Refusal} (e : checked_as r ≡ set_answer s) where
  pub checked_accepted : {p : Struct.Parameters} → r ≡ Ok p → AcceptedSet s × (set_from p ≡ s)
  unfolding set_answer
  checked_accepted {p} same =
      let only = answer-accepted_only (set_tests s) [] s (set_from p) (sym e ∙ ap checked_as same) in
      (only.0, sym only.2)

  pub checked_fits : {p : Struct.Parameters} → r ≡ Ok p → AcceptedSet (set_from p)
  checked_fits same = let told = checked_accepted same in rw told.1 told.0

  pub checked_refused : {k : Refusal} → r ≡ Err k → (refusal_number k ≡ first_refusal (set_tests s)) × (refusal_number k ≡ 0 → ⊥)
  unfolding set_answer answer first_refusal
  checked_refused {k} same = untouched_only (first_refusal (set_tests s)) (refusal_number k) s (sym (ap checked_as same) ∙ e)

  pub accepted-answer : {p : Struct.Parameters} → r ≡ Ok p → {A : Type 0} (value : Parameters → A) (x : A) → x ≡ value (set_from p)
      → accepted x ≡ answer (set_tests s) [] (value s)
  unfolding first_refusal
  accepted-answer same value x is =
      let told = checked_accepted same in
      ap (λ y. accepted y) (is ∙ ap value told.1) ∙ sym (answer-accepted (set_tests s) [] (value s) told.0 refl)

  pub refused-answer : {k : Refusal} → r ≡ Err k → {A : Type 0} (a : A) → untouched (refusal_number k) ≡ answer (set_tests s) [] a
  refused-answer {k} same a = let told = checked_refused same in sym (answer-untouched_at (set_tests s) [] a (refusal_number k) told.1 (sym told.0))

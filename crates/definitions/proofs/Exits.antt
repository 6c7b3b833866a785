-- Why each return of a call leaves what its ..Exit says: the tests that led there decide the answer. One section for all calls.
--
--   leaves            what the call leaves for an answer: keygen_leaves and its kin, at the buffers that it was lent
--   exit_set          an unfit set: its number, and nothing is touched
--   exit_length       a length that is not the exact one: 6, and nothing is touched
--   exit_refused      the first of the later tests that applies
--   exit_accepted     no test applies
-- Assumes nothing.
use Prim.Native.Nat.{ℕ, suc}
use mathlib.Core.Path.{◌≡◌, sym, ap, ◌∙◌}
use mathlib.Core.Bool.{Bool, true, false, cond}
use mathlib.Core.List.{List}
use native.Mathlib.Nat.{pos_of_ne-zero}
use Rattle.definitions.specs.Refusals.{Test, Answer, untouched, refused, accepted, first_refusal, answer}
use Rattle.definitions.specs.Parameters.{Parameters, set_tests}
use Rattle.definitions.specs.Calls.{length_tests}
use Rattle.definitions.specs.Demand3.{AcceptedSet}
use Rattle.definitions.proofs.Refusals.{first_refusal-append-refused, answer-untouched, answer-untouched_at, answer-refused, answer-accepted}
use Rattle.definitions.proofs.Calls.{length_tests_decide}

module _ {A E : Type 0} (leaves : Answer A → E) (p : Parameters) (exact : Bool) (later : List Test) (a : A) where
  pub exit_set : {k : ℕ} → k ≡ first_refusal (set_tests p) → (k ≡ 0 → ⊥) → leaves (untouched k) ≡ leaves (answer (length_tests p exact) later a)
  unfolding length_tests
  exit_set {k} e pos =
      ap leaves (sym (answer-untouched_at (length_tests p exact) later a k pos
      (first_refusal-append-refused (set_tests p) _ (rw (← e) (pos_of_ne-zero pos)) ∙ sym e)))

  module _ (set : AcceptedSet p) where
    pub exit_length : exact ≡ false → leaves (untouched 6) ≡ leaves (answer (length_tests p exact) later a)
    exit_length e = ap leaves (sym (answer-untouched (length_tests p exact) later a 5 (length_tests_decide p set exact ∙ rw e)))

    module _ (e : exact ≡ true) where
      passed : first_refusal (length_tests p exact) ≡ 0
      passed = length_tests_decide p set exact ∙ rw e

      pub exit_refused : (k : ℕ) → first_refusal later ≡ suc k → leaves (refused (suc k)) ≡ leaves (answer (length_tests p exact) later a)
      exit_refused k f = ap leaves (sym (answer-refused (length_tests p exact) later a k passed f))

      pub exit_accepted : first_refusal later ≡ 0 → leaves (accepted a) ≡ leaves (answer (length_tests p exact) later a)
      exit_accepted f = ap leaves (sym (answer-accepted (length_tests p exact) later a passed f))

-- Why one number answers a call: an ordered list of tests gives the first that applies, and `answer` sorts by it.
--
--   Numbered              each test of a list has a number above 0, as all of 01 have
--   first_refusal-..       the first refusal of a test and the later ones, of two lists end to end
--   answer-..             which of its three shapes an answer has, from the two first refusals, and back
-- Assumes nothing.
use Prim.Native.Nat.{ℕ, zero, suc, ◌<◌}
use mathlib.Core.Path.{◌≡◌, refl, sym, ◌∙◌}
use mathlib.Core.Bool.{Bool, true, false, not}
use mathlib.Core.List.{List, [], ◌∷◌, ◌++◌}
use native.Mathlib.Omega.{arith}
use lib.Dec.{eqb, eqb-suc-zero}
use Rattle.definitions.specs.Refusals.{Test, refuse, first_refusal, untouched, refused, accepted, answer_of, answer, number}

abbrev pub Numbered : List Test → Type 0
Numbered [] = Unit
Numbered (refuse k applies ∷ later) = (0 < k) × Numbered later

pub first_refusal_applies : (k : ℕ) (t : Bool) (later : List Test) → t ≡ true → first_refusal (refuse k t ∷ later) ≡ k
unfolding first_refusal
first_refusal_applies k t later e = rw e

pub first_refusal_passes : (k : ℕ) (t : Bool) (later : List Test) → t ≡ false → first_refusal (refuse k t ∷ later) ≡ first_refusal later
unfolding first_refusal
first_refusal_passes k t later e = rw e

pub first_refusal_last : (k : ℕ) (t : Bool) → t ≡ false → first_refusal (refuse k t ∷ []) ≡ 0
unfolding first_refusal
first_refusal_last k t e = rw e

-- the number of one test, compared with 0, is whether the test does not apply
pub first_refusal-zero : (k : ℕ) (t : Bool) → eqb (first_refusal (refuse (suc k) (not t) ∷ [])) 0 ≡ t
unfolding first_refusal
first_refusal-zero k true = refl
first_refusal-zero k false = eqb-suc-zero k

-- a list that gives 0 has passed its first test
pub first_refusal_passed : (k : ℕ) (t : Bool) (later : List Test) → 0 < k → first_refusal (refuse k t ∷ later) ≡ 0
    → (t ≡ false) × (first_refusal later ≡ 0)
unfolding first_refusal
first_refusal_passed k true later pos e = let z : ⊥ = omega arith in absurd z
first_refusal_passed k false later pos e = (refl, e)

-- where no test of the first list applies, the second decides
pub first_refusal-append : (xs ys : List Test) → Numbered xs → first_refusal xs ≡ 0 → first_refusal (xs ++ ys) ≡ first_refusal ys
unfolding first_refusal
first_refusal-append [] ys numbered e = refl
first_refusal-append (refuse k true ∷ xs) ys numbered e = let z : ⊥ = omega arith in absurd z
first_refusal-append (refuse k false ∷ xs) ys numbered e = first_refusal-append xs ys numbered.1 e

-- where one does, the second is not asked
pub first_refusal-append-refused : (xs ys : List Test) → 0 < first_refusal xs → first_refusal (xs ++ ys) ≡ first_refusal xs
unfolding first_refusal
first_refusal-append-refused [] ys pos = let z : ⊥ = omega arith in absurd z
first_refusal-append-refused (refuse k true ∷ xs) ys pos = refl
first_refusal-append-refused (refuse k false ∷ xs) ys pos = first_refusal-append-refused xs ys pos

-- two lists end to end give 0 where both do
pub first_refusal-append_passed : (xs ys : List Test) → Numbered xs → first_refusal (xs ++ ys) ≡ 0
    → (first_refusal xs ≡ 0) × (first_refusal ys ≡ 0)
unfolding first_refusal
first_refusal-append_passed [] ys numbered e = (refl, e)
first_refusal-append_passed (refuse k true ∷ xs) ys numbered e = let z : ⊥ = omega arith in absurd z
first_refusal-append_passed (refuse k false ∷ xs) ys numbered e = first_refusal-append_passed xs ys numbered.1 e

-- ---- the answer

number-answer_of : {A : Type 0} (k : ℕ) (a : A) → number (answer_of 0 k a) ≡ k
number-answer_of zero a = refl
number-answer_of (suc k) a = refl

answer_of_only : {A : Type 0} (m k : ℕ) (a b : A) → answer_of m k a ≡ accepted b → (m ≡ 0) × (k ≡ 0) × (a ≡ b)
answer_of_only zero zero a b e = (refl, refl, cc)
answer_of_only zero (suc k) a b e = let z : ◌≡◌ {A = ℕ} 0 1 = cc in let w : ⊥ = omega arith in absurd w
answer_of_only (suc m) k a b e = let z : ◌≡◌ {A = ℕ} 0 1 = cc in let w : ⊥ = omega arith in absurd w

answer_of_success : {A : Type 0} (m k : ℕ) (a : A) → number (answer_of m k a) ≡ 0 → answer_of m k a ≡ accepted a
answer_of_success zero zero a e = refl
answer_of_success zero (suc k) a e = let z : ⊥ = omega arith in absurd z
answer_of_success (suc m) k a e = let z : ⊥ = omega arith in absurd z

module _ {A : Type 0} (first later : List Test) (a : A) where
  pub answer-accepted : first_refusal first ≡ 0 → first_refusal later ≡ 0 → answer first later a ≡ accepted a
  unfolding answer
  answer-accepted e f = rw (e, f)

  pub answer-refused : (k : ℕ) → first_refusal first ≡ 0 → first_refusal later ≡ suc k → answer first later a ≡ refused (suc k)
  unfolding answer
  answer-refused k e f = rw (e, f)

  pub answer-untouched : (k : ℕ) → first_refusal first ≡ suc k → answer first later a ≡ untouched (suc k)
  unfolding answer
  answer-untouched k e = rw e

  pub answer-untouched_at : (k : ℕ) → (k ≡ 0 → ⊥) → first_refusal first ≡ k → answer first later a ≡ untouched k
  answer-untouched_at zero pos e = absurd (pos refl)
  answer-untouched_at (suc k) pos e = answer-untouched k e

  -- only tests that all pass are accepted, and with the values given
  pub answer-accepted_only : (b : A) → answer first later a ≡ accepted b → (first_refusal first ≡ 0) × (first_refusal later ≡ 0) × (a ≡ b)
  unfolding answer
  answer-accepted_only b e = answer_of_only (first_refusal first) (first_refusal later) a b e

  -- 0 is success
  pub answer_success : number (answer first later a) ≡ 0 → answer first later a ≡ accepted a
  unfolding answer
  answer_success = answer_of_success (first_refusal first) (first_refusal later) a

  -- the number is that of the first test that applies, of both lists in order
  pub number-answer : Numbered first → number (answer first later a) ≡ first_refusal (first ++ later)
  unfolding answer
  number-answer numbered = go (first_refusal first) refl
    where
      go : (m : ℕ) → first_refusal first ≡ m → number (answer_of m (first_refusal later) a) ≡ first_refusal (first ++ later)
      go zero e = number-answer_of (first_refusal later) a ∙ sym (first_refusal-append first later numbered e)
      go (suc m) e = sym (first_refusal-append-refused first later (omega arith) ∙ e)

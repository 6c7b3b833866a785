-- 01, "Refusal table", with 02: which number a call answers, and what its buffers hold then.
--
--   refuse k t       a test of the table: number k is given where t is true
--   first_refusal     the number of the first test of an ordered list that applies, 0 where none does
--   Answer A         what a call answers: a refusal that leaves even the work words alone, a later refusal, or its values
--   answer           the answer from the tests up to the length test (6), the tests after it, and the values
--   number           the number that the caller is given; 0 is success
--   output           an output at exit: its value where the call accepts, its old contents where it refuses
--   work_at_exit       the work words at exit: as they were after a refusal from the length test or one before it, otherwise zero
--
-- The numbers: 1 range, 2 ring, 3 degree, 4 modulus, 5 message size, 6 length, 7 padding, 8 coefficient, 9 exhausted (01: spent), 10 tail, 11 line,
-- 14 top coefficient (02, Q-3), 18 edition (02, Q-7). Where several apply, the first of the list is given; Order.antt has the order in which every list goes.
-- Assumes nothing.
use Rattle.std.specs.Prelude.{ℕ, zero, suc, Bool, cond, List, [], ◌∷◌, length, replicate}

pub data Test : Type 0 where
  refuse : ℕ → Bool → Test

unfoldable pub first_refusal : List Test → ℕ
first_refusal [] = 0
first_refusal (refuse k applies ∷ later) = cond applies k (first_refusal later)

pub data Answer (A : Type 0) : Type 0 where
  untouched : ℕ → Answer A
  refused : ℕ → Answer A
  accepted : A → Answer A

abbrev pub answer_of : {A : Type 0} → ℕ → ℕ → A → Answer A
answer_of zero zero a = accepted a
answer_of zero (suc k) a = refused (suc k)
answer_of (suc k) later a = untouched (suc k)

unfoldable pub answer : {A : Type 0} → List Test → List Test → A → Answer A
answer first later a = answer_of (first_refusal first) (first_refusal later) a

abbrev pub number : {A : Type 0} → Answer A → ℕ
number (untouched k) = k
number (refused k) = k
number (accepted a) = 0

abbrev pub output : {A B : Type 0} → (A → B) → Answer A → B → B
output value (untouched k) old = old
output value (refused k) old = old
output value (accepted a) old = value a

abbrev pub work_at_exit : {A : Type 0} → Answer A → List ℕ → List ℕ
work_at_exit (untouched k) work = work
work_at_exit (refused k) work = replicate (length work) 0
work_at_exit (accepted a) work = replicate (length work) 0

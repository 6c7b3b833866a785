-- 01, "Refusal table", with 02: the order in which every call tests, once for all of them. It is not that of the numbers: 11 comes first, 18
-- after 5 and before 6 (02, Q-7), and 14 after 8 and before 9 (02, Q-3).
--
--   up_to_length       the numbers in their order up to the length test: 11 first where it occurs, then 1 to 5, 18, 6; a refusal with
--                    one of these leaves the work words untouched
--   after_length      those after it; after a refusal with one of these the work words are zero
--   stands_in         whether some numbers stand in a list, in its order, each at most once
--   number_of_test     the number of a test
--   InOrder          an answer is that of given tests, which stand in this order; the length test is the place that 01's rule for work words names
--   RefusalOrder     every answer is that of its own tests, and these stand so
--
-- A later request places its numbers here; a call that tests in another order then fails the check.
-- Assumes nothing.
use Rattle.std.specs.Prelude.{ℕ, ◌*◌, ◌≡◌, Bool, true, false, cond, ◌&&◌, List, [], ◌∷◌, map, eqb, length}
use Rattle.definitions.specs.Refusals.{Test, refuse, Answer, answer}
use Rattle.definitions.specs.Parameters.{Parameters, set_tests, small_length, elements_length, limits_answer, lengths_answer}
use Rattle.definitions.specs.Calls.{length_tests, keys_exact, encrypt_exact, add_exact, decrypt_exact, keygen_tests, keygen_answer, is_zero_tests, is_zero_answer, encrypt_tests, encrypt_answer, add_tests, add_answer, decrypt_tests, decrypt_answer}
use Rattle.definitions.specs.MultiplyAdd.{multiply_add_exact, multiply_add_tests, multiply_add_answer}
use Rattle.definitions.specs.Conversions.{from_octets_tests, from_octets_answer, to_octets_tests, to_octets_answer, packed_from_tests, packed_from_answer, packed_to_tests, packed_to_answer}
use Rattle.definitions.specs.Roomsheet.{Text, line_tests, line_limits}

abbrev pub up_to_length : List ℕ
up_to_length = 11 ∷ 1 ∷ 2 ∷ 3 ∷ 4 ∷ 5 ∷ 18 ∷ 6 ∷ []

abbrev pub after_length : List ℕ
after_length = 7 ∷ 8 ∷ 14 ∷ 9 ∷ 10 ∷ []

abbrev pub stands_in : List ℕ → List ℕ → Bool
stands_in order [] = true
stands_in [] (k ∷ later) = false
stands_in (o ∷ order) (k ∷ later) = cond (eqb o k) (stands_in order later) (stands_in order (k ∷ later))

abbrev pub number_of_test : Test → ℕ
number_of_test (refuse k applies) = k

-- an answer is that of the tests given, up to the length test and after it, and these stand in the order
pub record InOrder {A : Type 0} (given : Answer A) (first later : List Test) : Type 0 where
  pub value : A
  pub is : given ≡ answer first later value
  pub first_ordered : stands_in up_to_length (map number_of_test first) ≡ true
  pub later_ordered : stands_in after_length (map number_of_test later) ≡ true

pub record RefusalOrder : Type 0 where
  pub limits : (p : Parameters) → InOrder (limits_answer p) (set_tests p) []
  pub lengths : (p : Parameters) → InOrder (lengths_answer p) (set_tests p) []
  pub keygen :
      (p : Parameters) (random : List ℕ) (secret_len public_len work_len : ℕ) →
      InOrder (keygen_answer p random secret_len public_len work_len) (length_tests p (keys_exact p secret_len public_len work_len)) (keygen_tests p random)
  pub is_zero :
      (p : Parameters) (secret public : List ℕ) (work_len : ℕ) →
      InOrder (is_zero_answer p secret public work_len) (length_tests p (keys_exact p (length secret) (length public) work_len)) (is_zero_tests p secret public)
  pub encrypt :
      (p : Parameters) (public message random : List ℕ) (ciphertext_len work_len : ℕ) →
      InOrder (encrypt_answer p public message random ciphertext_len work_len)
      (length_tests p (encrypt_exact p (length public) (length message) ciphertext_len work_len)) (encrypt_tests p public message random)
  pub add :
      (p : Parameters) (a b : List ℕ) (sum_len : ℕ) →
      InOrder (add_answer p a b sum_len) (length_tests p (add_exact p (length a) (length b) sum_len)) (add_tests p a b)
  pub decrypt :
      (p : Parameters) (secret ciphertext : List ℕ) (message_len work_len : ℕ) →
      InOrder (decrypt_answer p secret ciphertext message_len work_len)
      (length_tests p (decrypt_exact p (length secret) (length ciphertext) message_len work_len)) (decrypt_tests p secret ciphertext)
  pub multiply_add :
      (p : Parameters) (a b c : List ℕ) →
      InOrder (multiply_add_answer p a b c) (length_tests p (multiply_add_exact p (length a) (length b) (length c))) (multiply_add_tests p a b c)
  pub from_octets :
      (p : Parameters) (elements : ℕ) (octets : List ℕ) (words_len : ℕ) →
      InOrder (from_octets_answer p elements octets words_len)
      (length_tests p (eqb (length octets) (elements_length p elements) && eqb words_len (elements * p.n))) (from_octets_tests p elements octets)
  pub to_octets :
      (p : Parameters) (elements : ℕ) (words : List ℕ) (octets_len : ℕ) →
      InOrder (to_octets_answer p elements words octets_len)
      (length_tests p (eqb (length words) (elements * p.n) && eqb octets_len (elements_length p elements))) (to_octets_tests p words)
  pub packed_from :
      (p : Parameters) (elements : ℕ) (octets : List ℕ) (words_len : ℕ) →
      InOrder (packed_from_answer p elements octets words_len)
      (length_tests p (eqb (length octets) (elements * small_length p) && eqb words_len (elements * p.n))) (packed_from_tests p elements octets)
  pub packed_to :
      (p : Parameters) (elements : ℕ) (words : List ℕ) (octets_len : ℕ) →
      InOrder (packed_to_answer p elements words octets_len)
      (length_tests p (eqb (length words) (elements * p.n) && eqb octets_len (elements * small_length p))) (packed_to_tests p words)
  pub line : (line : Text) → InOrder (line_limits line) (line_tests line) []

-- 01, "Draws from lent random octets" (opening), after the length test.
--
--   tail_tests        test 10, of an element
--   MessageOf        the number of the tail test, and the message of an element where it is 0; otherwise the message as it was
--   Decrypted        the same of all tests after the length test, and of the element that a ciphertext decrypts to
-- Assumes nothing.
use Rattle.std.specs.Prelude.{ℕ, ◌≡◌, not, List, [], ◌∷◌, ◌++◌}
use Rattle.definitions.specs.Refusals.{Test, refuse, first_refusal}
use Rattle.definitions.specs.Parameters.{Parameters, degree}
use Rattle.definitions.specs.Ring.{Element}
use Rattle.definitions.specs.Calls.{secret_tests, tail_clear, message_of, decrypted_from}

abbrev pub tail_tests : Parameters → Element → List Test
tail_tests p m = refuse 10 (not (tail_clear p m)) ∷ []

pub record MessageOf (p : Parameters) (m : Element) (refusal : ℕ) (old message : List ℕ) : Type 0 where
  pub number : refusal ≡ first_refusal (tail_tests p m)
  pub written : refusal ≡ 0 → message ≡ message_of p m
  pub kept : (refusal ≡ 0 → ⊥) → message ≡ old

pub record Decrypted (p : Parameters) (secret ciphertext : List ℕ) (refusal : ℕ) (old message : List ℕ) : Type 0 where
  pub number : refusal ≡ first_refusal (secret_tests p (degree p) secret ciphertext ++ tail_tests p (decrypted_from p secret ciphertext))
  pub written : refusal ≡ 0 → message ≡ message_of p (decrypted_from p secret ciphertext)
  pub kept : (refusal ≡ 0 → ⊥) → message ≡ old

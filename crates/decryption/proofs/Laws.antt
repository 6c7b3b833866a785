-- Why decryption is right: the tests that led to a return decide its answer, and the third part holds w.
--
--   decrypted-..     what the tests after the length test leave: the message where they pass, and what was there where one does not
--   decrypt-..       what each return leaves
-- Assumes nothing.
use Prim.Native.Nat.{ℕ, zero, suc, ◌*◌, ◌%◌, ◌<◌}
use mathlib.Core.Path.{◌≡◌, refl, sym, ap, ◌∙◌}
use mathlib.Core.Bool.{true, false, not}
use mathlib.Core.List.{List, [], ◌∷◌}
use mathlib.Core.Logic.{⊎_elim}
use native.Mathlib.Nat.{pos_of_ne-zero}
use native.Mathlib.Omega.{arith}
use lib.ListN.{length, replicate}
use Rattle.definitions.specs.Refusals.{refuse, untouched, first_refusal}
use Rattle.definitions.specs.Parameters.{Parameters, degree, ciphertext_length}
use Rattle.definitions.specs.Ring.{modulo}
use Rattle.definitions.specs.Calls.{secret_tests, decrypt_exact, DecryptExit, decrypted_value, decrypted_element, decrypted_from, decrypt_answer, decrypt_leaves, decrypt_exit}
use Rattle.definitions.specs.Demand3.{AcceptedSet}
use Rattle.definitions.proofs.Refusals.{Numbered, first_refusal-append, first_refusal-append-refused}
use Rattle.definitions.proofs.Parameters.{Accepted, accepted-set, key-degree-most, mask-degree-most}
use Rattle.definitions.proofs.Calls.{decrypt_exact-told}
use Rattle.definitions.proofs.Decryption.{tail_clear_cong, message_of_cong}
use Rattle.ring.specs.Work.{part}
use Rattle.definitions.proofs.Exits.{exit_length, exit_refused, exit_accepted}
use Rattle.secrets.specs.Secrets.{ValueInputs, Valued}
use Rattle.decryption.specs.Decrypted.{MessageOf, Decrypted}

module _ (p : Parameters) (secret ciphertext : List ℕ) {refusal : ℕ} {work : List ℕ} (v : Valued p (degree p) secret ciphertext refusal work) where
  pub decrypted-refused : (old : List ℕ) → (refusal ≡ 0 → ⊥) → Decrypted p secret ciphertext refusal old old
  decrypted-refused old h =
      record {
        number = v.number ∙ sym (first_refusal-append-refused (secret_tests p (degree p) secret ciphertext) _ (rw (← v.number) (pos_of_ne-zero h)));
        written = λ e. absurd (h e);
        kept = λ _. refl;
      }

  module _ (none : refusal ≡ 0) where
    -- w modulo ℓ stands in the third part
    same : (k : ℕ) → k < p.n → modulo p.l (part work (2 * p.n)) k ≡ decrypted_from p secret ciphertext k
    unfolding decrypted_from decrypted_element decrypted_value modulo
    same k l = ap (λ (x : ℕ). x % p.l) (v.value none k l)

    numbered : Numbered (secret_tests p (degree p) secret ciphertext)
    numbered = (omega arith, (omega arith, (omega arith, tt)))

    pub decrypted-message : (old : List ℕ) {r : ℕ} {message : List ℕ} → MessageOf p (modulo p.l (part work (2 * p.n))) r old message
        → Decrypted p secret ciphertext r old message
    decrypted-message old m =
        record {
          number = m.number
              ∙ ap (λ t. first_refusal (refuse 10 (not t) ∷ [])) (tail_clear_cong p same)
              ∙ sym (first_refusal-append (secret_tests p (degree p) secret ciphertext) _ numbered (sym v.number ∙ none));
          written = λ e. m.written e ∙ message_of_cong p same;
          kept = m.kept;
        }

module _ (p : Parameters) (set : AcceptedSet p) (secret ciphertext old work : List ℕ) where
  pub decrypt-length : decrypt_exact p (length secret) (length ciphertext) (length old) (length work) ≡ false
      → decrypt_leaves (untouched 6) old work ≡ decrypt_exit p secret ciphertext old work
  unfolding decrypt_exit decrypt_answer
  decrypt-length e = exit_length (λ x. decrypt_leaves x old work) p _ _ _ set e

  module _ (exact : decrypt_exact p (length secret) (length ciphertext) (length old) (length work) ≡ true) where
    pub decrypt-inputs : ValueInputs p (degree p) secret ciphertext work
    unfolding ciphertext_length
    decrypt-inputs =
        let a : Accepted p = accepted-set p set in
        let lengths = decrypt_exact-told p exact in
        record {
          set = set;
          degree-least = ⊎_elim (λ e. omega arith) (λ e. omega arith) a.key-degree;
          degree-most = omega (arith, key-degree-most p a, mask-degree-most p a);
          secret-length = lengths.0;
          octets-length = lengths.1;
          work-length = lengths.3;
        }

    -- past the length test: the words are cleared, whatever the tests said
    pub decrypt-decrypted : (refusal : ℕ) {message words : List ℕ} → Decrypted p secret ciphertext refusal old message → words ≡ replicate (length work) 0
        → ◌≡◌ {A = DecryptExit} (record { refusal = refusal; message = message; work = words }) (decrypt_exit p secret ciphertext old work)
    unfolding decrypt_exit decrypt_answer
    decrypt-decrypted zero t e = rw (t.written refl, e) (exit_accepted (λ x. decrypt_leaves x old work) p _ _ _ set exact (sym t.number))
    decrypt-decrypted (suc k) t e =
        rw (t.kept (λ z. omega arith), e) (exit_refused (λ x. decrypt_leaves x old work) p _ _ _ set exact k (sym t.number))

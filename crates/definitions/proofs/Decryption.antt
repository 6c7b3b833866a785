-- Why decryption answers what it does: with a zero of the key and a well-formed ciphertext only the lengths and the tail can refuse,
-- and the rest depends on the decrypted coefficients alone.
--
--   tail_clear_cong, message_of_cong   neither looks past the n coefficients
--   decrypts_alike                   two ciphertexts with the same decrypted coefficients have one answer
--   decrypts_to                      decrypted coefficients that are a ledger entry's, modulo ℓ, give DecryptsTo
-- Assumes nothing.
use Prim.Native.Nat.{ℕ, ◌*◌, ◌%◌, ◌<◌}
use mathlib.Core.Path.{◌≡◌, refl}
use mathlib.Core.Bool.{true, ◌&&◌}
use mathlib.Core.List.{List}
use native.Mathlib.Nat.{zero-mod}
use native.Mathlib.Omega.{arith}
use native.Mathlib.Decide.{dec_lt}
use borrow.Author.Tests.{eq-eqb, lt-ltb}
use lib.Dec.{eqb, ltb}
use lib.ListN.{length}
use Rattle.definitions.specs.Refusals.{first_refusal}
use Rattle.definitions.specs.Parameters.{Parameters, small_bits, secret_length, ciphertext_length, message_length, work_length}
use Rattle.definitions.specs.Ring.{Element, modulo}
use Rattle.definitions.specs.Calls.{tail_clear, message_of, decrypted_from, decrypt_answer, decrypt_exact}
use Rattle.definitions.specs.Demand3.{WellFormed, ZeroPastMessage, DecryptsTo}
use Rattle.definitions.proofs.Sums.{every_true, every_cong, tabulate_cong}
use Rattle.definitions.proofs.Tests.{either_first, either_second}
use Rattle.definitions.proofs.Calls.{Zero, answer-exact}

module _ (p : Parameters) {a b : Element} (same : (k : ℕ) → k < p.n → a k ≡ b k) where
  pub tail_clear_cong : tail_clear p a ≡ tail_clear p b
  unfolding tail_clear
  tail_clear_cong = every_cong p.n (λ k l. rw (same k l))

  pub message_of_cong : message_of p a ≡ message_of p b
  unfolding message_of
  message_of_cong = rw (tabulate_cong p.n same)

-- whole numbers that are zero past mlen have a clear tail modulo ℓ
pub tail_clear_true : (p : Parameters) (m : Element) → ZeroPastMessage p m → tail_clear p (modulo p.l m) ≡ true
unfolding tail_clear modulo
tail_clear_true p m tail =
    every_true p.n (λ k l.
    elim (dec_lt (k * small_bits p.l) p.mlen) [
      | yes s ↦ either_first _ _ (lt-ltb (k * small_bits p.l) p.mlen s)
      | no s ↦ either_second (ltb (k * small_bits p.l) p.mlen) _ (eq-eqb (m k % p.l) 0 (rw (tail k (omega arith)) (zero-mod p.l)))
    ])

pub decrypts_alike : (p : Parameters) (secret c d : List ℕ) → WellFormed p c → WellFormed p d
    → ((k : ℕ) → k < p.n → decrypted_from p secret c k ≡ decrypted_from p secret d k)
    → (message_len work_len : ℕ) → decrypt_answer p secret c message_len work_len ≡ decrypt_answer p secret d message_len work_len
unfolding decrypt_answer decrypt_exact
decrypts_alike p secret c d wc wd same message_len work_len =
    rw (
      eq-eqb (length c) (ciphertext_length p) wc.exact,
      eq-eqb (length d) (ciphertext_length p) wd.exact,
      wc.fits,
      wd.fits,
      tail_clear_cong p {a = decrypted_from p secret c} {b = decrypted_from p secret d} same,
      message_of_cong p {a = decrypted_from p secret c} {b = decrypted_from p secret d} same,
    )

pub decrypts_to : (p : Parameters) (public secret c : List ℕ) (places : Element) → Zero p public secret → WellFormed p c → ZeroPastMessage p places
    → ((k : ℕ) → k < p.n → decrypted_from p secret c k ≡ modulo p.l places k)
    → DecryptsTo p secret c places
unfolding decrypt_answer decrypt_exact first_refusal
decrypts_to p public secret c places z w tail same message_len work_len =
    rw (
      eq-eqb (length secret) (secret_length p) z.secret-exact,
      eq-eqb (length c) (ciphertext_length p) w.exact,
      z.padded,
      w.fits,
      z.full,
      tail_clear_cong p {a = decrypted_from p secret c} {b = modulo p.l places} same,
      message_of_cong p {a = decrypted_from p secret c} {b = modulo p.l places} same,
      tail_clear_true p places tail,
    )
    (answer-exact p z.set (eqb message_len (message_length p) && eqb work_len (work_length p)) _ (message_of p (modulo p.l places)) refl)

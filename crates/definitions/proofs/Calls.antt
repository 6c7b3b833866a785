-- Why a call is accepted: an accepted set leaves its first tests to the lengths, and each later test is then read as a fact.
--
--   length_tests-..    what the tests up to the length test give
--   ..Exact-told      the lengths of a call's buffers, each
--   answer-exact      the answer where no later test applies
--   Zero              what the zero test's yes says, a field for each test;  zero-told, zero_of: that it does
--   ..Told            what an accepted call says, a field for each test and for its output
-- Assumes nothing.
use Prim.Native.Nat.{ℕ, ◌%◌, ◌≤◌, ◌<◌}
use mathlib.Core.Path.{◌≡◌, refl, ap}
use mathlib.Core.Bool.{Bool, true, false, cond, not}
use mathlib.Core.List.{List}
use borrow.Author.Tests.{eqb-true, ltb-false, not-false, eq-eqb}
use lib.Dec.{lit<}
use lib.ListN.{length, drop}
use Rattle.definitions.specs.Refusals.{Test, first_refusal, untouched, accepted, answer}
use Rattle.definitions.specs.Parameters.{Parameters, degree, set_tests, monomial_count, secret_length, public_length, ciphertext_length, message_length, work_length}
use Rattle.definitions.specs.Ring.{modulo}
use Rattle.definitions.specs.Monomials.{polynomial_of, value}
use Rattle.definitions.specs.Octets.{padding_clear}
use Rattle.definitions.specs.Calls.{KeyPair, Encrypted, small_of, secret_x, secret_y, polynomial_from, octets_from, secret_bits_clear, elements_fit, secret_full, length_tests, keys_exact, encrypt_exact, add_exact, decrypt_exact, half_draws, key_draws, key_pair_of, keygen_answer, is_zero_at, is_zero_answer, mask_draws, noise_of, encrypted_with, mask_used, encrypt_used, encrypt_answer, sum_modulo, add_answer}
use Rattle.definitions.specs.Demand3.{AcceptedSet, ZeroOf}
use Rattle.definitions.proofs.Sums.{every_true, every_at}
use Rattle.definitions.proofs.Tests.{both_true, neither_true}
use Rattle.definitions.proofs.Refusals.{first_refusal_passed, first_refusal-append, first_refusal-append_passed, answer-accepted, answer-accepted_only, answer-untouched}
use Rattle.definitions.proofs.Parameters.{set_tests_numbered}

-- ---- the tests up to the length test

pub length_tests_decide : (p : Parameters) → AcceptedSet p → (exact : Bool) → first_refusal (length_tests p exact) ≡ cond exact 0 6
unfolding length_tests first_refusal
length_tests_decide p set true = first_refusal-append (set_tests p) _ (set_tests_numbered p) set
length_tests_decide p set false = first_refusal-append (set_tests p) _ (set_tests_numbered p) set

pub length_tests_passed : (p : Parameters) (exact : Bool) → first_refusal (length_tests p exact) ≡ 0 → AcceptedSet p × (exact ≡ true)
unfolding length_tests
length_tests_passed p exact e =
    let both = first_refusal-append_passed (set_tests p) _ (set_tests_numbered p) e in
    (both.0, not-false exact (first_refusal_passed 6 _ _ (lit< tt) both.1).0)

pub answer-exact : {A : Type 0} (p : Parameters) → AcceptedSet p → (exact : Bool) (later : List Test) (a : A) → first_refusal later ≡ 0
    → answer (length_tests p exact) later a ≡ cond exact (accepted a) (untouched 6)
answer-exact p set true later a e = answer-accepted (length_tests p true) later a (length_tests_decide p set true) e
answer-exact p set false later a e = answer-untouched (length_tests p false) later a 5 (length_tests_decide p set false)

-- ---- lengths that are exact

module _ (p : Parameters) where
  pub keys_exact-told : {s k w : ℕ} → keys_exact p s k w ≡ true → (s ≡ secret_length p) × (k ≡ public_length p) × (w ≡ work_length p)
  unfolding keys_exact
  keys_exact-told e =
      let a = both_true _ _ e in
      let b = both_true _ _ a.1 in
      (eqb-true _ _ a.0, eqb-true _ _ b.0, eqb-true _ _ b.1)

  pub encrypt_exact-told : {k m c w : ℕ} → encrypt_exact p k m c w ≡ true
      → (k ≡ public_length p) × (m ≡ message_length p) × (c ≡ ciphertext_length p) × (w ≡ work_length p)
  unfolding encrypt_exact
  encrypt_exact-told e =
      let a = both_true _ _ e in
      let b = both_true _ _ a.1 in
      let d = both_true _ _ b.1 in
      (eqb-true _ _ a.0, eqb-true _ _ b.0, eqb-true _ _ d.0, eqb-true _ _ d.1)

  pub add_exact-told : {a b s : ℕ} → add_exact p a b s ≡ true → (a ≡ ciphertext_length p) × (b ≡ ciphertext_length p) × (s ≡ ciphertext_length p)
  unfolding add_exact
  add_exact-told e =
      let a = both_true _ _ e in
      let b = both_true _ _ a.1 in
      (eqb-true _ _ a.0, eqb-true _ _ b.0, eqb-true _ _ b.1)

  pub decrypt_exact-told : {s c m w : ℕ} → decrypt_exact p s c m w ≡ true
      → (s ≡ secret_length p) × (c ≡ ciphertext_length p) × (m ≡ message_length p) × (w ≡ work_length p)
  unfolding decrypt_exact
  decrypt_exact-told e =
      let a = both_true _ _ e in
      let b = both_true _ _ a.1 in
      let d = both_true _ _ b.1 in
      (eqb-true _ _ a.0, eqb-true _ _ b.0, eqb-true _ _ d.0, eqb-true _ _ d.1)

-- ---- the zero test

pub record Zero (p : Parameters) (public secret : List ℕ) : Type 0 where
  pub set : AcceptedSet p
  pub secret-exact : length secret ≡ secret_length p
  pub public-exact : length public ≡ public_length p
  pub padded : secret_bits_clear p secret ≡ true
  pub fits : elements_fit p (monomial_count p.dx) public ≡ true
  pub full : secret_full p secret ≡ true
  pub vanishes :
      (k : ℕ) → k < p.n →
      value p.n p.dx (polynomial_from p public) (secret_x p secret) (secret_y p secret) k % p.q ≡ 0

pub zero-told : (p : Parameters) (public secret : List ℕ) → ZeroOf p public secret → Zero p public secret
unfolding is_zero_answer is_zero_at modulo
zero-told p public secret e =
    let told = answer-accepted_only _ _ _ true e in
    let first = length_tests_passed p _ told.0 in
    let lengths = keys_exact-told p first.1 in
    let padding = first_refusal_passed 7 _ _ (lit< tt) told.1 in
    let inside = first_refusal_passed 8 _ _ (lit< tt) padding.1 in
    let tops = first_refusal_passed 14 _ _ (lit< tt) inside.1 in
    record {
      set = first.0;
      secret-exact = lengths.0;
      public-exact = lengths.1;
      padded = not-false _ padding.0;
      fits = not-false _ inside.0;
      full = not-false _ tops.0;
      vanishes = λ k l. eqb-true _ _ (every_at p.n _ told.2 l);
    }

pub zero_of : (p : Parameters) (public secret : List ℕ) → Zero p public secret → ZeroOf p public secret
unfolding is_zero_answer is_zero_at modulo first_refusal keys_exact
zero_of p public secret z =
    rw (
      eq-eqb (length secret) (secret_length p) z.secret-exact,
      eq-eqb (length public) (public_length p) z.public-exact,
      eq-eqb (work_length p) (work_length p) refl,
      z.padded,
      z.fits,
      z.full,
      every_true p.n (λ k l. eq-eqb _ 0 (z.vanishes k l)),
    )
    (answer-exact p z.set true _ true refl)

-- ---- key generation

pub record KeygenTold (p : Parameters) (random : List ℕ) (keys : KeyPair) : Type 0 where
  pub set : AcceptedSet p
  pub settled : (half_draws p random).enough ≡ true
  pub enough : (key_draws p random).enough ≡ true
  pub made : key_pair_of p (half_draws p random) (key_draws p random) ≡ keys

pub keygen-told : (p : Parameters) (random : List ℕ) (secret_len public_len work_len : ℕ) (keys : KeyPair)
    → keygen_answer p random secret_len public_len work_len ≡ accepted keys → KeygenTold p random keys
unfolding keygen_answer
keygen-told p random secret_len public_len work_len keys given =
    let told = answer-accepted_only _ _ _ keys given in
    let octets =
    neither_true (not (half_draws p random).enough) (not (key_draws p random).enough) (first_refusal_passed 9 _ _ (lit< tt) told.1).0 in
    record {
      set = (length_tests_passed p _ told.0).0;
      settled = not-false _ octets.0;
      enough = not-false _ octets.1;
      made = told.2;
    }

-- ---- encryption

pub record EncryptTold (p : Parameters) (public message random : List ℕ) (e : Encrypted) : Type 0 where
  pub set : AcceptedSet p
  pub public-exact : length public ≡ public_length p
  pub message-exact : length message ≡ message_length p
  pub padded : padding_clear p.mlen message ≡ true
  pub fits : elements_fit p (monomial_count p.dx) public ≡ true
  pub enough : (mask_draws p random).enough ≡ true
  pub room : encrypt_used p random ≤ length random
  pub encrypted :
      octets_from p (degree p)
      (encrypted_with p (polynomial_from p public) (small_of p message) (polynomial_of p.n (mask_draws p random).values)
      (noise_of p (drop (mask_used p random) random)))
      ≡ e.ciphertext
  pub used : encrypt_used p random ≡ e.used
  pub dropped : (mask_draws p random).dropped ≡ e.dropped_groups

pub encrypt-told : (p : Parameters) (public message random : List ℕ) (ciphertext_len work_len : ℕ) (e : Encrypted)
    → encrypt_answer p public message random ciphertext_len work_len ≡ accepted e → EncryptTold p public message random e
unfolding encrypt_answer
encrypt-told p public message random ciphertext_len work_len e given =
    let told = answer-accepted_only _ _ _ e given in
    let first = length_tests_passed p _ told.0 in
    let lengths = encrypt_exact-told p first.1 in
    let padding = first_refusal_passed 7 _ _ (lit< tt) told.1 in
    let inside = first_refusal_passed 8 _ _ (lit< tt) padding.1 in
    let octets = neither_true (not (mask_draws p random).enough) _ (first_refusal_passed 9 _ _ (lit< tt) inside.1).0 in
    record {
      set = first.0;
      public-exact = lengths.0;
      message-exact = lengths.1;
      padded = not-false _ padding.0;
      fits = not-false _ inside.0;
      enough = not-false _ octets.0;
      room = ltb-false _ _ octets.1;
      encrypted = ap (λ (x : Encrypted). x.ciphertext) told.2;
      used = ap (λ (x : Encrypted). x.used) told.2;
      dropped = ap (λ (x : Encrypted). x.dropped_groups) told.2;
    }

-- ---- addition

pub record AddTold (p : Parameters) (a b c : List ℕ) : Type 0 where
  pub set : AcceptedSet p
  pub left_fits : elements_fit p (monomial_count (degree p)) a ≡ true
  pub right_fits : elements_fit p (monomial_count (degree p)) b ≡ true
  pub added : octets_from p (degree p) (sum_modulo p (polynomial_from p a) (polynomial_from p b)) ≡ c

pub add-told : (p : Parameters) (a b : List ℕ) (sum_len : ℕ) (c : List ℕ) → add_answer p a b sum_len ≡ accepted c → AddTold p a b c
unfolding add_answer
add-told p a b sum_len c given =
    let told = answer-accepted_only _ _ _ c given in
    let inside = both_true _ _ (not-false _ (first_refusal_passed 8 _ _ (lit< tt) told.1).0) in
    record {
      set = (length_tests_passed p _ told.0).0;
      left_fits = inside.0;
      right_fits = inside.1;
      added = told.2;
    }

-- What decides each return of encryption: the first of the tests past the length test that applies, or none.
--
--   first-..         the first test that applies
--   left_refused, left_accepted     what is left once the work words are cleared, where a test applies, and where none does
-- Assumes nothing.
use Prim.Native.Nat.{ℕ, zero, suc, ◌/◌, ◌≤◌, ◌<◌}
use native.Mathlib.Nat.{pos_of_ne-zero}
use mathlib.Core.Path.{◌≡◌, refl, sym, ◌∙◌}
use mathlib.Core.Bool.{true, false, not}
use mathlib.Core.List.{List, [], ◌∷◌}
use borrow.Author.Tests.{lt-ltb, le-ltb}
use lib.ListN.{length, drop, replicate}
use Rattle.definitions.specs.Refusals.{refuse, first_refusal}
use Rattle.definitions.specs.Parameters.{Parameters, degree, qlen, monomial_count, elements_length}
use Rattle.definitions.specs.Monomials.{polynomial_of}
use Rattle.definitions.specs.Octets.{decoded, padding_clear}
use Rattle.definitions.specs.Calls.{small_of, polynomial_from, octets_from, elements_fit, mask_draws, mask_used, noise_of, encrypted_with, encrypt_used, encrypt_exact, encrypt_tests, EncryptExit, encrypt_leaves, encrypt_exit, encrypt_answer}
use Rattle.definitions.specs.Demand3.{AcceptedSet}
use Rattle.definitions.proofs.Refusals.{first_refusal_passes, first_refusal-append-refused}
use Rattle.definitions.proofs.Parameters.{accepted-set}
use Rattle.definitions.proofs.Exits.{exit_refused, exit_accepted}
use Rattle.judging.specs.Reading.{fit_number}
use Rattle.judging.proofs.Judged.{judged}
use Rattle.packing.specs.Fields.{padding_number}

module _ (p : Parameters) (public message random : List ℕ) where
  abbrev pub First : ℕ → Type 0
  First r = first_refusal (encrypt_tests p public message random) ≡ r

  pub first-padding : {r : ℕ} → r ≡ padding_number p.mlen message → (r ≡ 0 → ⊥) → First r
  unfolding padding_number
  first-padding e some = first_refusal-append-refused (refuse 7 (not (padding_clear p.mlen message)) ∷ []) _ (rw (← e) (pos_of_ne-zero some)) ∙ sym e

  module _ (padded : padding_clear p.mlen message ≡ true) where
    -- the judge's number of the key's octets
    pub first-coefficient : {len r : ℕ} → len ≡ qlen p.q → length public ≡ elements_length p (monomial_count p.dx) → AcceptedSet p
        → r ≡ fit_number p.q (decoded len (length public / len) public) → (r ≡ 0 → ⊥) → First r
    unfolding fit_number elements_fit
    first-coefficient e exact set number some =
        let judged = judged p (accepted-set p set) (monomial_count p.dx) public exact e number in
        first_refusal_passes 7 _ _ (rw padded)
        ∙ first_refusal-append-refused (refuse 8 (not (elements_fit p (monomial_count p.dx) public)) ∷ []) _ (rw (← judged) (pos_of_ne-zero some))
        ∙ sym judged

    module _ (fits : elements_fit p (monomial_count p.dx) public ≡ true) where
      pub first-mask : (mask_draws p random).enough ≡ false → First 9
      unfolding first_refusal
      first-mask e = rw (padded, fits, e)

      module _ (enough : (mask_draws p random).enough ≡ true) where
        pub first-noise : length random < encrypt_used p random → First 9
        unfolding first_refusal
        first-noise l = rw (padded, fits, enough, lt-ltb (length random) (encrypt_used p random) l)

        pub first-none : encrypt_used p random ≤ length random → First 0
        unfolding first_refusal
        first-none l = rw (padded, fits, enough, le-ltb (length random) (encrypt_used p random) l)

module _ (p : Parameters) (public message random ciphertext : List ℕ) (used dropped : ℕ) (work : List ℕ) (set : AcceptedSet p)
    (exact : encrypt_exact p (length public) (length message) (length ciphertext) (length work) ≡ true)
  where
    pub left_refused : (r : ℕ) → (r ≡ 0 → ⊥) → First p public message random r
        → ◌≡◌ {A = EncryptExit} (record { refusal = r; ciphertext = ciphertext; used = used; dropped_groups = dropped; work = replicate (length work) 0 })
        (encrypt_exit p public message random ciphertext used dropped work)
    unfolding encrypt_exit encrypt_answer
    left_refused zero some e = absurd (some refl)
    left_refused (suc k) some e = exit_refused (λ x. encrypt_leaves x ciphertext used dropped work) p _ _ _ set exact k e

    pub left_accepted : {octets : List ℕ} {count groups : ℕ} → First p public message random 0
        → octets
        ≡ octets_from p (degree p)
        (encrypted_with p (polynomial_from p public) (small_of p message) (polynomial_of p.n (mask_draws p random).values) (noise_of p (drop (mask_used p random) random)))
        → count ≡ encrypt_used p random → groups ≡ (mask_draws p random).dropped
        → ◌≡◌ {A = EncryptExit} (record { refusal = 0; ciphertext = octets; used = count; dropped_groups = groups; work = replicate (length work) 0 })
        (encrypt_exit p public message random ciphertext used dropped work)
    unfolding encrypt_exit encrypt_answer
    left_accepted e o u d = rw (o, u, d) (exit_accepted (λ x. encrypt_leaves x ciphertext used dropped work) p _ _ _ set exact e)

-- What every export leaves for a set that its constructor refused: the number, and nothing is touched. For an accepted set, which is the one
-- named (checked_accepted), the call behind keeps the export's promise.
--
--   ..-refused           the refused arm of the export of each call
--   degrees_most         the degrees of an accepted set;  count_most: so it has at most 15 monomials
-- Assumes nothing.
use Prim.Native.Nat.{ℕ, ◌≤◌}
use mathlib.Core.Path.{◌≡◌}
use mathlib.Core.Bool.{Bool}
use mathlib.Core.List.{List}
use Rattle.std.specs.Prelude.{Result, Ok, Err}
use Rattle.definitions.specs.Refusals.{Test, Answer, untouched, answer}
use Rattle.definitions.specs.Parameters.{Parameters, monomial_count}
use Rattle.definitions.specs.Calls.{length_tests, KeygenExit, keygen_leaves, keygen_answer, keygen_exit, IsZeroExit, is_zero_leaves, is_zero_answer, is_zero_exit, EncryptExit, encrypt_leaves, encrypt_answer, encrypt_exit, AddExit, add_leaves, add_answer, add_exit, DecryptExit, decrypt_leaves, decrypt_answer, decrypt_exit}
use Rattle.definitions.specs.MultiplyAdd.{MultiplyAddExit, multiply_add_leaves, multiply_add_answer, multiply_add_exit}
use Rattle.definitions.specs.Conversions.{conversion_leaves, from_octets_answer, from_octets_exit, to_octets_answer, to_octets_exit, packed_from_answer, packed_from_exit, packed_to_answer, packed_to_exit}
use Rattle.definitions.proofs.Parameters.{accepted-set, key-degree-most, mask-degree-most}
use Rattle.definitions.proofs.Exits.{exit_set}
use Rattle.definitions.proofs.Monomials.{count_fifteen}
use Rattle.parameters.specs.Answers.{set_answer, checked_as}
use Rattle.parameters.specs.Refusals.{refusal_number}
use Rattle.parameters.specs.declared.Parameters as Struct
use Rattle.parameters.specs.declared.refusals.Refusal.{Refusal}
use Rattle.parameters.proofs.Answers.{checked_accepted, checked_refused}

module _ (s : Parameters) {r : Result Struct.Parameters Refusal} (e : checked_as r ≡ set_answer s) where
  module _ {k : Refusal} (same : r ≡ Err k) where
    refused : {A E : Type 0} (leaves : Answer A → E) (exact : Bool) (later : List Test) (a : A)
        → leaves (untouched (refusal_number k)) ≡ leaves (answer (length_tests s exact) later a)
    refused leaves exact later a = let told = checked_refused s e same in exit_set leaves s exact later a told.0 told.1

    pub keygen-refused : (random secret public : List ℕ) (used groups elements : ℕ) (work : List ℕ)
        → ◌≡◌ {A = KeygenExit}
        (record { refusal = refusal_number k; secret = secret; public = public; used = used; dropped_groups = groups; dropped_elements = elements; work = work })
        (keygen_exit s random secret public used groups elements work)
    unfolding keygen_exit keygen_answer
    keygen-refused random secret public used groups elements work = refused (λ x. keygen_leaves x secret public used groups elements work) _ _ _

    pub is_zero-refused : (secret public : List ℕ) (old : ℕ) (work : List ℕ)
        → ◌≡◌ {A = IsZeroExit} (record { refusal = refusal_number k; zero = old; work = work }) (is_zero_exit s secret public old work)
    unfolding is_zero_exit is_zero_answer
    is_zero-refused secret public old work = refused (λ x. is_zero_leaves x old work) _ _ _

    pub encrypt-refused : (public message random ciphertext : List ℕ) (used dropped : ℕ) (work : List ℕ)
        → ◌≡◌ {A = EncryptExit} (record { refusal = refusal_number k; ciphertext = ciphertext; used = used; dropped_groups = dropped; work = work })
        (encrypt_exit s public message random ciphertext used dropped work)
    unfolding encrypt_exit encrypt_answer
    encrypt-refused public message random ciphertext used dropped work = refused (λ x. encrypt_leaves x ciphertext used dropped work) _ _ _

    pub add-refused : (a b sum : List ℕ) → ◌≡◌ {A = AddExit} (record { refusal = refusal_number k; sum = sum }) (add_exit s a b sum)
    unfolding add_exit add_answer
    add-refused a b sum = refused (λ x. add_leaves x sum) _ _ _

    pub decrypt-refused : (secret ciphertext message work : List ℕ)
        → ◌≡◌ {A = DecryptExit} (record { refusal = refusal_number k; message = message; work = work }) (decrypt_exit s secret ciphertext message work)
    unfolding decrypt_exit decrypt_answer
    decrypt-refused secret ciphertext message work = refused (λ x. decrypt_leaves x message work) _ _ _

    pub multiply_add-refused : (a b c : List ℕ) → ◌≡◌ {A = MultiplyAddExit} (record { refusal = refusal_number k; a = a; b = b; c = c }) (multiply_add_exit s a b c)
    unfolding multiply_add_exit multiply_add_answer
    multiply_add-refused a b c = refused (λ x. multiply_add_leaves x a b c) _ _ _

    module _ (elements : ℕ) (given out : List ℕ) where
      pub decode_refused : record { refusal = refusal_number k; converted = out } ≡ from_octets_exit s elements given out
      unfolding from_octets_exit from_octets_answer
      decode_refused = refused (λ x. conversion_leaves x out) _ _ _

      pub encode_refused : record { refusal = refusal_number k; converted = out } ≡ to_octets_exit s elements given out
      unfolding to_octets_exit to_octets_answer
      encode_refused = refused (λ x. conversion_leaves x out) _ _ _

      pub unpack_refused : record { refusal = refusal_number k; converted = out } ≡ packed_from_exit s elements given out
      unfolding packed_from_exit packed_from_answer
      unpack_refused = refused (λ x. conversion_leaves x out) _ _ _

      pub pack_refused : record { refusal = refusal_number k; converted = out } ≡ packed_to_exit s elements given out
      unfolding packed_to_exit packed_to_answer
      pack_refused = refused (λ x. conversion_leaves x out) _ _ _

  pub degrees_most : {p : Struct.Parameters} → r ≡ Ok p → (s.dx ≤ 2) × (s.dr ≤ 2)
  degrees_most same = let set = accepted-set s (checked_accepted s e same).0 in (key-degree-most s set, mask-degree-most s set)

pub count_most : (d : ℕ) {m : ℕ} → m ≡ monomial_count d → d ≤ 4 → m ≤ 15
count_most d e h = rw e (count_fifteen d h)

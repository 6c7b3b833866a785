-- One legal list of calls with its ledger, so that no hypothesis of demand 3 is empty, and the case that shows condition (11) too weak.
--
--   set_b             ℓ 4, q 65521, n 2, dX 1, dr 1, mlen 4: room for 45 fresh ciphertexts
--   key_b             the key that worked case 2's random octets make under it;  secret_a is its secret
--   calls_b           an encryption of 2 + 3t, two refused ones (message padding; a key of another length), the sum of the ciphertext with itself,
--                    a refused addition of octets that are no ciphertext, and the first encryption once more with r = 0
--   Witnessed        what holds of them
--   weak_set          worked case 8's set with a q above S but not above B: condition (11) holds, q > B does not
--   weak_ciphertext   m + X × r + ℓ × e under it, with key and r zero and m and each e equal to 3 + 3t
--   Weak             it decrypts to 2 + 2t
-- Assumes nothing.
use Rattle.std.specs.Prelude.{ℕ, ◌*◌, ◌≤◌, ◌<◌, ◌≡◌, true, List, [], ◌∷◌, ◌++◌, map, get_or, drop, replicate}
use Rattle.definitions.specs.Sequences.{tabulate}
use Rattle.definitions.specs.Refusals.{accepted}
use Rattle.definitions.specs.Parameters.{Parameters, degree, term_sum, bound}
use Rattle.definitions.specs.Monomials.{polynomial_of}
use Rattle.definitions.specs.Calls.{small_of, secret_x, secret_y, polynomial_from, octets_from, keygen_answer, is_zero_at, mask_draws, noise_of, encrypted_with, decrypted_from, decrypt_answer}
use Rattle.definitions.specs.Ledger.{given, other, Call, encrypt, addition, given_by, nothing, encrypted, added, events, Entry, ledger, Legal}
use Rattle.definitions.specs.Demand3.{AcceptedSet, ZeroOf, DiffersBy}
use Rattle.definitions.specs.WorkedCases.{key_random, secret_a, after_pair}

abbrev pub set_b : Parameters
set_b = record { l = 4; q = 65521; n = 2; dx = 1; dr = 1; mlen = 4; edition = 1 }

abbrev pub key_b : List ℕ
key_b = 0x05 ∷ 0x00 ∷ 0x07 ∷ 0x00 ∷ 0x64 ∷ 0x00 ∷ 0x01 ∷ 0x00 ∷ 0xDD ∷ 0xFF ∷ 0x7C ∷ 0xFF ∷ []

abbrev pub random_b : List ℕ
random_b = 0x01 ∷ 0x00 ∷ (after_pair ++ (0x09 ∷ []))

abbrev pub unmasked_b : List ℕ
unmasked_b = replicate 12 0 ++ drop 12 random_b

abbrev pub calls_b : List Call
calls_b =
    encrypt key_b (0x0E ∷ []) random_b 24 16
    ∷ encrypt key_b (0x1E ∷ []) random_b 24 16
    ∷ encrypt (0x05 ∷ []) (0x0E ∷ []) random_b 24 16
    ∷ addition (given 0) (given 0) 24
    ∷ addition (other (0xFF ∷ 0xFF ∷ [])) (given 0) 24
    ∷ encrypt key_b (0x0E ∷ []) unmasked_b 24 16
    ∷ []

pub record Witnessed : Type 0 where
  pub set : AcceptedSet set_b
  pub made : keygen_answer set_b key_random 2 12 16 ≡ accepted (record { secret = secret_a; public = key_b; used = 10; dropped_groups = 0; dropped_elements = 0 })
  pub zero : ZeroOf set_b key_b secret_a
  pub legal : Legal set_b key_b [] calls_b
  pub told : events set_b [] calls_b ≡ encrypted (0x0E ∷ []) ∷ nothing ∷ nothing ∷ added 0 0 ∷ nothing ∷ encrypted (0x0E ∷ []) ∷ []
  pub counts : map (λ (entry : Entry). entry.count) (ledger set_b (events set_b [] calls_b)) ≡ 1 ∷ 2 ∷ 1 ∷ []
  pub totals : map (λ (entry : Entry). tabulate 2 entry.places) (ledger set_b (events set_b [] calls_b)) ≡ (2 ∷ 3 ∷ []) ∷ (4 ∷ 6 ∷ []) ∷ (2 ∷ 3 ∷ []) ∷ []
  pub room : 2 * bound set_b < set_b.q
  pub decrypted : decrypt_answer set_b secret_a (get_or (given_by set_b [] calls_b) 1 []) 1 16 ≡ accepted (0x08 ∷ [])
  pub differs :
      DiffersBy set_b key_b (polynomial_of 2 (mask_draws set_b random_b).values) (get_or (given_by set_b [] calls_b) 0 []) (get_or (given_by set_b [] calls_b) 2 [])
  pub first_masked : get_or (get_or (given_by set_b [] calls_b) 0 []) 0 0 ≡ 9
  pub first_unmasked : get_or (get_or (given_by set_b [] calls_b) 2 []) 0 0 ≡ 4

abbrev pub weak_set : Parameters
weak_set = record { l = 4; q = 1021; n = 2; dx = 1; dr = 1; mlen = 4; edition = 1 }

abbrev pub weak_key : List ℕ
weak_key = replicate 12 0

abbrev pub weak_secret : List ℕ
weak_secret = 0x0F ∷ 0x0F ∷ []

abbrev pub weak_ciphertext : List ℕ
weak_ciphertext =
    octets_from weak_set (degree weak_set)
    (encrypted_with weak_set (polynomial_from weak_set weak_key) (small_of weak_set (0x0F ∷ [])) (polynomial_of 2 (replicate 6 0)) (noise_of weak_set (replicate 6 0x0F)))

pub record Weak : Type 0 where
  pub above_S : term_sum weak_set < weak_set.q
  pub not_above_B : weak_set.q ≤ bound weak_set
  pub zero : is_zero_at weak_set (polynomial_from weak_set weak_key) (secret_x weak_set weak_secret) (secret_y weak_set weak_secret) ≡ true
  pub message : tabulate 2 (small_of weak_set (0x0F ∷ [])) ≡ 3 ∷ 3 ∷ []
  pub decrypted : tabulate 2 (decrypted_from weak_set weak_secret weak_ciphertext) ≡ 2 ∷ 2 ∷ []

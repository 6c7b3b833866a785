-- 01, "Worked list": the cases marked P, and two rows more of 02, Q-1, as one table. proofs/Computed.antt shows that they follow from the
-- definitions.
--
--   set_a             ℓ 4, q 1459, n 2, dX 1, dr 1, mlen 4, in edition 1, like every set of 01
--   least_bound_set    ℓ 2, n 2, dX 1, dr 1, mlen 2, for rows of change requests: the least bound of all, 35, so every q from 36 to 2^31 - 1 is
--                    accepted
--   Row              what the definitions give, beside what 01, or a change request, says or lets follow
--   told..           an answer as a list: its number, then, where it is 0, the octets used, the groups (02, Q-1) and the elements (02, Q-3)
--                    dropped, if it reports them, and the octets given; of keys the length of the secret before both keys;  told_number: the
--                    number alone
-- Assumes nothing.
use Rattle.std.specs.Prelude.{ℕ, List, [], ◌∷◌, ◌++◌, length, take, drop, replicate}
use Rattle.definitions.specs.Sequences.{tabulate, joined}
use Rattle.definitions.specs.Refusals.{Answer, untouched, refused, accepted}
use Rattle.definitions.specs.Parameters.{Parameters}
use Rattle.definitions.specs.Ring.{element_of, modulo, conv}
use Rattle.definitions.specs.Calls.{KeyPair, Encrypted, polynomial_from, secret_x, secret_y, decrypted_value, decrypted_from, keygen_answer, encrypt_answer, decrypt_answer}

abbrev pub set_a_with : ℕ → Parameters
set_a_with mlen = record { l = 4; q = 1459; n = 2; dx = 1; dr = 1; mlen = mlen; edition = 1 }

abbrev pub set_a : Parameters
set_a = set_a_with 4

abbrev pub least_bound_set : ℕ → Parameters
least_bound_set q = record { l = 2; q = q; n = 2; dx = 1; dr = 1; mlen = 2; edition = 1 }

-- ---- the octets of the cases

abbrev pub key_random : List ℕ
key_random = 0x09 ∷ 0x04 ∷ 0x05 ∷ 0x00 ∷ 0x07 ∷ 0x00 ∷ 0x64 ∷ 0x00 ∷ 0x01 ∷ 0x00 ∷ []

abbrev pub secret_a : List ℕ
secret_a = 0x09 ∷ 0x04 ∷ []

-- case 7 puts another first coefficient into the key
abbrev pub key_from : ℕ → ℕ → List ℕ
key_from low high = low ∷ high ∷ 0x07 ∷ 0x00 ∷ 0x64 ∷ 0x00 ∷ 0x01 ∷ 0x00 ∷ 0x9F ∷ 0x05 ∷ 0x3E ∷ 0x05 ∷ []

abbrev pub key_a : List ℕ
key_a = key_from 0x05 0x00

-- the random octets of case 3 after the first pair, all but the last octet
abbrev pub after_pair : List ℕ
after_pair =
    0x00 ∷ 0x00 ∷ 0x00 ∷ 0x00 ∷ 0x00 ∷ 0x00 ∷ 0x00 ∷ 0x00 ∷ 0x01 ∷ 0x00 ∷ 0x01 ∷ 0x00 ∷ 0x08 ∷ 0x0F ∷ 0x00 ∷ []

-- those of case 3 with 1459 in front and again before the third pair
abbrev pub two_dropped : List ℕ
two_dropped = 0xB3 ∷ 0x05 ∷ 0x01 ∷ 0x00 ∷ 0x00 ∷ 0x00 ∷ 0xB3 ∷ 0x05 ∷ (drop 2 after_pair ++ (0x09 ∷ []))

abbrev pub ciphertext_a : List ℕ
ciphertext_a =
    0x09 ∷ 0x00 ∷ 0x07 ∷ 0x00 ∷ 0x64 ∷ 0x00 ∷ 0x01 ∷ 0x00 ∷ 0x00 ∷ 0x00 ∷ 0x08 ∷ 0x00 ∷ 0xB2 ∷ 0x05 ∷ 0x4F ∷ 0x05 ∷ 0x01 ∷ 0x00 ∷ 0x64 ∷ 0x00
    ∷ 0x44 ∷ 0x05 ∷ 0xAA ∷ 0x05 ∷ []

-- ---- answers as lists

abbrev pub told_keys : Answer KeyPair → List ℕ
told_keys (untouched k) = k ∷ []
told_keys (refused k) = k ∷ []
told_keys (accepted keys) = 0 ∷ keys.used ∷ keys.dropped_groups ∷ keys.dropped_elements ∷ length keys.secret ∷ (keys.secret ++ keys.public)

abbrev pub told_ciphertext : Answer Encrypted → List ℕ
told_ciphertext (untouched k) = k ∷ []
told_ciphertext (refused k) = k ∷ []
told_ciphertext (accepted e) = 0 ∷ e.used ∷ e.dropped_groups ∷ e.ciphertext

abbrev pub told_message : Answer (List ℕ) → List ℕ
told_message (untouched k) = k ∷ []
told_message (refused k) = k ∷ []
told_message (accepted message) = 0 ∷ message

abbrev pub told_number : List ℕ → List ℕ
told_number [] = []
told_number (k ∷ rest) = k ∷ []

-- ---- the calls of the cases, with every buffer of its exact length

unfoldable pub keygen_a : List ℕ → List ℕ
keygen_a random = told_keys (keygen_answer set_a random 2 12 16)

encrypt_a : List ℕ → List ℕ → List ℕ → List ℕ
encrypt_a key message random = told_ciphertext (encrypt_answer set_a key message random 24 16)

unfoldable pub decrypt_a : Parameters → List ℕ → List ℕ → List ℕ
decrypt_a p secret ciphertext = told_message (decrypt_answer p secret ciphertext 1 16)

-- w, at both places
value_a : List ℕ → List ℕ → List ℕ
value_a secret ciphertext = tabulate 2 (decrypted_value set_a (polynomial_from set_a ciphertext) (secret_x set_a secret) (secret_y set_a secret))

-- case 8: 4 × 3 at every coefficient, and 3 more at the constant's
unfoldable pub zero_key : List ℕ
zero_key = replicate 12 0

largest : List ℕ
largest = 0x0F ∷ 0x0F ∷ []

largest_random : List ℕ
largest_random = replicate 12 0 ++ replicate 6 0x0F

largest_ciphertext : List ℕ
largest_ciphertext = joined (replicate 10 (12 ∷ 0 ∷ []) ++ replicate 2 (15 ∷ 0 ∷ []))

-- ---- the table

pub record Row : Type 0 where
  pub given : List ℕ
  pub expected : List ℕ

unfoldable pub row : List ℕ → List ℕ → Row
row given expected = record { given = given; expected = expected }

unfoldable pub cases : List Row
unfolding row keygen_a encrypt_a decrypt_a value_a zero_key largest largest_random largest_ciphertext
cases =
    -- 1: (1 + 2t) × (5 + 7t)
    row (tabulate 2 (modulo 1459 (conv 2 (element_of (1 ∷ 2 ∷ [])) (element_of (5 ∷ 7 ∷ []))))) (19 ∷ 17 ∷ [])
    -- 2
    ∷ row (keygen_a key_random) (0 ∷ 10 ∷ 0 ∷ 0 ∷ 2 ∷ (secret_a ++ key_a))
    -- 3
    ∷ row (encrypt_a key_a (0x0E ∷ []) (0x01 ∷ 0x00 ∷ (after_pair ++ (0x09 ∷ [])))) (0 ∷ 18 ∷ 0 ∷ ciphertext_a)
    -- 4: w, the message, and refusal 10 with mlen 2
    ∷ row (value_a secret_a ciphertext_a) (62 ∷ 71 ∷ [])
    ∷ row (decrypt_a set_a secret_a ciphertext_a) (0 ∷ 0x0E ∷ [])
    ∷ row (decrypt_a (set_a_with 2) secret_a ciphertext_a) (10 ∷ [])
    -- 5: 2049 is 1 modulo 2048; 1459 is dropped, a total of 1 (02, Q-1)
    ∷ row (encrypt_a key_a (0x0E ∷ []) (0x01 ∷ 0x08 ∷ (after_pair ++ (0x09 ∷ [])))) (0 ∷ 18 ∷ 0 ∷ ciphertext_a)
    ∷ row (encrypt_a key_a (0x0E ∷ []) (0xB3 ∷ 0x05 ∷ 0x01 ∷ 0x00 ∷ (after_pair ++ (0x09 ∷ [])))) (0 ∷ 20 ∷ 1 ∷ ciphertext_a)
    -- Q-1: dropped again before the third pair, a total of 2
    ∷ row (encrypt_a key_a (0x0E ∷ []) two_dropped) (0 ∷ 22 ∷ 2 ∷ ciphertext_a)
    -- 6: the last octet is missing
    ∷ row (encrypt_a key_a (0x0E ∷ []) (0x01 ∷ 0x00 ∷ after_pair)) (9 ∷ [])
    ∷ row (keygen_a (take 9 key_random)) (9 ∷ [])
    -- Q-1: and after a dropped group
    ∷ row (encrypt_a key_a (0x0E ∷ []) (0xB3 ∷ 0x05 ∷ 0x01 ∷ 0x00 ∷ after_pair)) (9 ∷ [])
    -- 7: a key coefficient of 1458 and of 1459; a non-zero unused bit of the message
    ∷ row (told_number (encrypt_a (key_from 0xB2 0x05) (0x0E ∷ []) (0x01 ∷ 0x00 ∷ (after_pair ++ (0x09 ∷ []))))) (0 ∷ [])
    ∷ row (encrypt_a (key_from 0xB3 0x05) (0x0E ∷ []) (0x01 ∷ 0x00 ∷ (after_pair ++ (0x09 ∷ [])))) (8 ∷ [])
    ∷ row (encrypt_a key_a (0x1E ∷ []) (0x01 ∷ 0x00 ∷ (after_pair ++ (0x09 ∷ [])))) (7 ∷ [])
    -- 8: w is B at both places and decrypts to 3; modulo 1455 it would be 0
    ∷ row (encrypt_a zero_key (0x0F ∷ []) largest_random) (0 ∷ 18 ∷ 0 ∷ largest_ciphertext)
    ∷ row (value_a largest largest_ciphertext) (1455 ∷ 1455 ∷ [])
    ∷ row (decrypt_a set_a largest largest_ciphertext) (0 ∷ 0x0F ∷ [])
    ∷ row
    (tabulate 2 (decrypted_from (record { l = 4; q = 1455; n = 2; dx = 1; dr = 1; mlen = 4; edition = 1 }) largest largest_ciphertext))
    (0 ∷ 0 ∷ [])
    ∷ []

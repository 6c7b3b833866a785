-- 02, Q-3: u_x and u_y are drawn until they have degree n - 1. Which elements these are, what key generation reports, and rows.
--
--   element_at        the i-th group of ⌈n × b / 8⌉ octets as a small element, i from 0;  top_at: its coefficient of t^(n - 1)
--   FirstFull        after so many elements, each with a zero top, comes one of degree n - 1; its octets are there
--   ElementsSingly   so is every single draw of an element that has enough
--   ElementsUnfinished   without enough, nothing is given: every complete group has a zero top and is dropped
--   SecretSettled    u_x is settled first, then u_y from the octets after it; the elements dropped are those before each
--   KeysReported     the secret is settled so; the octets used are the fixed part plus ⌈n × b / 8⌉ for each element dropped plus qlen for each
--                    group dropped, and these are the sum over the single draws behind the secret
--   KeygenReports    so it is with what key generation reports, wherever it does not refuse
--   NoKeys           octets whose elements all have a zero top give 9, however many they are
--   FullSecrets      only secrets whose elements both have degree n - 1 decrypt, and only these have a zero test that answers
--   degree_rows       Q-3's rows: keys with dropped elements, the place of 14, and where the top coefficient stands
--   DroppedElementsWitnessed   what a caller has of keys with dropped elements, and of refusals with 9 and with 14; single draws of an element
-- Assumes nothing.
use Rattle.std.specs.Prelude.{ℕ, suc, ◌+◌, ◌-◌, ◌*◌, ◌/◌, ◌<◌, ◌≤◌, ◌≡◌, Bool, true, false, cond, List, [], ◌∷◌, ◌++◌, length, take, drop, replicate}
use Rattle.definitions.specs.Sequences.{tabulate, joined}
use Rattle.definitions.specs.Refusals.{Answer, untouched, refused, accepted}
use Rattle.definitions.specs.Parameters.{Parameters, small_length, secret_length}
use Rattle.definitions.specs.Ring.{element_of, full_degree}
use Rattle.definitions.specs.Draws.{small_drawn, secret_draws}
use Rattle.definitions.specs.Calls.{small_of, secret_full, keys_exact, key_coefficients, keygen_answer, KeygenExit, keygen_exit, is_zero_answer, is_zero_exit, decrypt_answer, decrypt_exit}
use Rattle.definitions.specs.Demand3.{AcceptedSet, secret_of}
use Rattle.definitions.specs.WorkedCases.{Row, row, set_a_with, set_a, key_random, secret_a, key_from, key_a, ciphertext_a, told_keys, keygen_a, decrypt_a, zero_key}
use Rattle.definitions.specs.DroppedGroups.{keygen_fixed, Reported, keys_left}

abbrev pub element_at : Parameters → List ℕ → ℕ → List ℕ
element_at p random i = small_drawn p (take (small_length p) (drop (i * small_length p) random))

abbrev pub top_at : Parameters → List ℕ → ℕ → ℕ
top_at p random i = element_of (element_at p random i) (p.n - 1)

pub record FirstFull (p : Parameters) (random : List ℕ) (dropped : ℕ) : Type 0 where
  pub there : small_length p * suc dropped ≤ length random
  pub zero-before : (i : ℕ) → i < dropped → top_at p random i ≡ 0
  pub full : 0 < top_at p random dropped

abbrev pub ElementsSingly : Type 0
ElementsSingly =
    (p : Parameters) (random : List ℕ) →
    (let drawn = secret_draws p 1 random in
    drawn.enough ≡ true →
    FirstFull p random drawn.dropped
    × (drawn.values ≡ element_at p random drawn.dropped ∷ [])
    × (drawn.groups ≡ suc drawn.dropped))

abbrev pub ElementsUnfinished : Type 0
ElementsUnfinished =
    (p : Parameters) (random : List ℕ) →
    (let drawn = secret_draws p 1 random in
    drawn.enough ≡ false →
    (drawn.values ≡ [])
    × (drawn.dropped ≡ length random / small_length p)
    × ((i : ℕ) → i < length random / small_length p → top_at p random i ≡ 0))

pub record SecretSettled (p : Parameters) (random secret : List ℕ) (dropped_elements : ℕ) : Type 0 where
  pub before_x : ℕ
  pub before_y : ℕ
  pub x : FirstFull p random before_x
  pub y : FirstFull p (drop (small_length p * suc before_x) random) before_y
  pub octets : secret ≡ secret_of p (element_at p random before_x) (element_at p (drop (small_length p * suc before_x) random) before_y)
  pub elements : dropped_elements ≡ before_x + before_y

pub record KeysReported (p : Parameters) (random : List ℕ) (exit : KeygenExit) : Type 0 where
  pub settled : SecretSettled p random exit.secret exit.dropped_elements
  pub reported :
      Reported p.q (keygen_fixed p + small_length p * exit.dropped_elements) exit.used exit.dropped_groups (key_coefficients p)
      (drop (secret_length p + small_length p * exit.dropped_elements) random)

-- what the caller has at exit, where the number is 0
abbrev pub KeygenReports : Type 0
KeygenReports =
    (p : Parameters) (random secret public : List ℕ) (used dropped_groups dropped_elements : ℕ) (work : List ℕ) →
    (let exit = keygen_exit p random secret public used dropped_groups dropped_elements work in
    exit.refusal ≡ 0 → KeysReported p random exit)

-- a laboratory's octets of zeros, and all others whose elements have a zero top
abbrev pub NoKeys : Type 0
NoKeys =
    (p : Parameters) → AcceptedSet p → (random secret public : List ℕ) (used dropped_groups dropped_elements : ℕ) (work : List ℕ) →
    keys_exact p (length secret) (length public) (length work) ≡ true →
    ((i : ℕ) → i < length random / small_length p → top_at p random i ≡ 0) →
    (keygen_exit p random secret public used dropped_groups dropped_elements work).refusal ≡ 9

abbrev pub FullSecrets : Type 0
FullSecrets =
    (p : Parameters) (secret : List ℕ) →
    ((ciphertext : List ℕ) (message_len work_len : ℕ) (message : List ℕ) →
    decrypt_answer p secret ciphertext message_len work_len ≡ accepted message → secret_full p secret ≡ true)
    × ((public : List ℕ) (work_len : ℕ) (zero : Bool) → is_zero_answer p secret public work_len ≡ accepted zero → secret_full p secret ≡ true)

-- ---- rows

-- 0 before u_x, 3 and 2 before u_y, 1459 before the terms of worked case 2
abbrev pub elements_random : List ℕ
elements_random = 0x00 ∷ 0x09 ∷ 0x03 ∷ 0x02 ∷ 0x04 ∷ 0xB3 ∷ 0x05 ∷ drop 2 key_random

-- an answer as its number, then, where it is 0, whether it is yes
told_zero : Answer Bool → List ℕ
told_zero (untouched k) = k ∷ []
told_zero (refused k) = k ∷ []
told_zero (accepted zero) = 0 ∷ cond zero 1 0 ∷ []

is_zero_a : List ℕ → List ℕ → List ℕ
is_zero_a secret public = told_zero (is_zero_answer set_a secret public 16)

-- worked case 3's ciphertext with a first coefficient of 1459
unfit : List ℕ
unfit = 0xB3 ∷ 0x05 ∷ drop 2 ciphertext_a

-- with ℓ 8 coefficients cross octets
set_eight : ℕ → Parameters
set_eight n = record { l = 8; q = 2147483647; n = n; dx = 1; dr = 1; mlen = 0; edition = 1 }

unfoldable pub set_crossing : Parameters
set_crossing = record { l = 8; q = 76507; n = 3; dx = 1; dr = 1; mlen = 0; edition = 1 }

-- six coefficients of 1 for the terms
unfoldable pub crossing_random : List ℕ
crossing_random = 0x3F ∷ 0xFE ∷ 0xC0 ∷ 0x00 ∷ 0x00 ∷ 0x00 ∷ 0x00 ∷ 0x01 ∷ joined (replicate 6 (0x01 ∷ 0x00 ∷ 0x00 ∷ []))

-- the secret C0 00 00 01, and the public key: the constant is 76500 at every place
unfoldable pub crossing_keys : List ℕ
crossing_keys = 0xC0 ∷ 0x00 ∷ 0x00 ∷ 0x01 ∷ joined (replicate 6 (0x01 ∷ 0x00 ∷ 0x00 ∷ []) ++ replicate 3 (0xD4 ∷ 0x2A ∷ 0x01 ∷ []))

full_eight : ℕ → List ℕ → ℕ
full_eight n octets = cond (full_degree n (small_of (set_eight n) octets)) 1 0

unfoldable pub degree_rows : List Row
unfolding row keygen_a decrypt_a zero_key told_zero is_zero_a unfit set_eight set_crossing crossing_random crossing_keys full_eight
degree_rows =
    -- 1 is dropped before case 2's octets; elements before both halves, and a group; the octets end before u_y is drawn; zeros alone
    row (keygen_a (0x01 ∷ key_random)) (0 ∷ 11 ∷ 0 ∷ 1 ∷ 2 ∷ (secret_a ++ key_a))
    ∷ row (keygen_a elements_random) (0 ∷ 15 ∷ 1 ∷ 3 ∷ 2 ∷ (secret_a ++ key_a))
    ∷ row (keygen_a (0x00 ∷ 0x09 ∷ 0x03 ∷ [])) (9 ∷ [])
    ∷ row (keygen_a (replicate 40 0)) (9 ∷ [])
    -- the unused bits of a drawn element are ignored: 241 is 1, and is dropped
    ∷ row (keygen_a (0xF1 ∷ key_random)) (0 ∷ 11 ∷ 0 ∷ 1 ∷ 2 ∷ (secret_a ++ key_a))
    -- decryption: 7, 8, 14, 10 in this order, and 14 for either element
    ∷ row (decrypt_a set_a (0x19 ∷ 0x00 ∷ []) unfit) (7 ∷ [])
    ∷ row (decrypt_a set_a (0x09 ∷ 0x00 ∷ []) unfit) (8 ∷ [])
    ∷ row (decrypt_a (set_a_with 2) (0x01 ∷ 0x04 ∷ []) ciphertext_a) (14 ∷ [])
    ∷ row (decrypt_a set_a (0x09 ∷ 0x03 ∷ []) ciphertext_a) (14 ∷ [])
    ∷ row (decrypt_a (set_a_with 2) secret_a ciphertext_a) (10 ∷ [])
    -- the zero test: the same; a key of zeros has every pair of degree n - 1 as a zero, and no other
    ∷ row (is_zero_a (0x19 ∷ 0x00 ∷ []) (key_from 0xB3 0x05)) (7 ∷ [])
    ∷ row (is_zero_a (0x09 ∷ 0x00 ∷ []) (key_from 0xB3 0x05)) (8 ∷ [])
    ∷ row (is_zero_a (0x01 ∷ 0x04 ∷ []) key_a) (14 ∷ [])
    ∷ row (is_zero_a secret_a key_a) (0 ∷ 1 ∷ [])
    ∷ row (is_zero_a (0x09 ∷ 0x08 ∷ []) key_a) (0 ∷ 0 ∷ [])
    ∷ row (is_zero_a (0x04 ∷ 0x04 ∷ []) zero_key) (0 ∷ 1 ∷ [])
    ∷ row (is_zero_a (0x04 ∷ 0x03 ∷ []) zero_key) (14 ∷ [])
    -- ℓ 8: with n 3 the top coefficient stands in two octets, with n 2 below the unused bits
    ∷ row (full_eight 3 (0xC0 ∷ 0x00 ∷ []) ∷ full_eight 3 (0x3F ∷ 0xFE ∷ []) ∷ full_eight 3 (0x00 ∷ 0x01 ∷ []) ∷ []) (1 ∷ 0 ∷ 1 ∷ [])
    ∷ row (full_eight 2 (0xC1 ∷ []) ∷ full_eight 2 (0x08 ∷ []) ∷ []) (0 ∷ 1 ∷ [])
    -- elements of two octets: 3F FE and 00 00 are dropped, C0 00 and 00 01 kept
    ∷ row (told_keys (keygen_answer set_crossing crossing_random 4 27 24))
    (0 ∷ 26 ∷ 0 ∷ 2 ∷ 4 ∷ crossing_keys)
    ∷ []

-- ---- the witness

pub record DroppedElementsWitnessed : Type 0 where
  pub made :
      keys_left elements_random
      ≡ record { refusal = 0; secret = secret_a; public = key_a; used = 15; dropped_groups = 1; dropped_elements = 3; work = replicate 16 0 }
  pub exhausted :
      keys_left (replicate 40 0)
      ≡ record { refusal = 9; secret = replicate 2 255; public = replicate 12 255; used = 98; dropped_groups = 99; dropped_elements = 96; work = replicate 16 0 }
  pub zero-refused :
      is_zero_exit set_a (0x01 ∷ 0x04 ∷ []) key_a 95 (replicate 16 97) ≡ record { refusal = 14; zero = 95; work = replicate 16 0 }
  pub decrypt-refused :
      decrypt_exit set_a (0x09 ∷ 0x03 ∷ []) ciphertext_a (255 ∷ []) (replicate 16 97) ≡ record { refusal = 14; message = 255 ∷ []; work = replicate 16 0 }
  -- the elements of 00 09 03 02 04, their tops, and the draws of one and of two
  pub tops : tabulate 5 (top_at set_a elements_random) ≡ 0 ∷ 2 ∷ 0 ∷ 0 ∷ 1 ∷ []
  pub single : secret_draws set_a 1 elements_random ≡ record { values = (1 ∷ 2 ∷ []) ∷ []; groups = 2; dropped = 1; enough = true }
  pub both :
      secret_draws set_a 2 elements_random ≡ record { values = (1 ∷ 2 ∷ []) ∷ (0 ∷ 1 ∷ []) ∷ []; groups = 5; dropped = 3; enough = true }
  -- what NoKeys asks, of forty zeros
  pub set : AcceptedSet set_a
  pub exact : keys_exact set_a 2 12 16 ≡ true
  pub zero-tops : tabulate 40 (top_at set_a (replicate 40 0)) ≡ replicate 40 0
  pub unfinished : secret_draws set_a 1 (0x03 ∷ 0x02 ∷ []) ≡ record { values = []; groups = 2; dropped = 2; enough = false }

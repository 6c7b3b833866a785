-- What follows from demand 3 for the calls that are made most: 01, "The parameter set" (headroom) and "The book of sums".
--
--   AllOctets        each number of a list is an octet
--   Fresh            what encryption accepts, decryption gives back, with every secret that is a zero of the key
--   Headroom         the headroom is the number of fresh ciphertexts that may be added: just the counts up to it have s × B below q
--   SumsRead         the coefficients of the message that decryption gives are the entry's numbers modulo ℓ
--   Totals           where the totals of an entry are below ℓ, and s × B below q, decryption gives the totals themselves
--   OwnSecret        a made key's own secret decrypts every ciphertext of a list under that key that has s × B below q
-- Assumes nothing.
use Rattle.std.specs.Prelude.{ℕ, ◌*◌, ◌%◌, ◌≤◌, ◌<◌, ◌≡◌, ◌↔◌, List, [], length, get_or}
use Rattle.definitions.specs.Refusals.{accepted}
use Rattle.definitions.specs.Parameters.{Parameters, bound, headroom, message_length, work_length}
use Rattle.definitions.specs.Ring.{InRing, modulo}
use Rattle.definitions.specs.Calls.{KeyPair, Encrypted, small_of, keygen_answer, encrypt_answer, decrypt_answer, message_of}
use Rattle.definitions.specs.Ledger.{Call, Entry, no_entry, given_by, events, ledger, Legal}
use Rattle.definitions.specs.Demand3.{AcceptedSet, ZeroOf, DecryptsTo, EntryHolds}

abbrev pub AllOctets : List ℕ → Type 0
AllOctets xs = (i : ℕ) → i < length xs → get_or xs i 0 < 256

abbrev pub Fresh : Type 0
Fresh =
    (p : Parameters) (public message random : List ℕ) (ciphertext_len work_len : ℕ) (e : Encrypted) → AllOctets message →
    encrypt_answer p public message random ciphertext_len work_len ≡ accepted e →
    (secret : List ℕ) → ZeroOf p public secret →
    decrypt_answer p secret e.ciphertext (message_length p) (work_length p) ≡ accepted message

abbrev pub Headroom : Type 0
Headroom = (p : Parameters) → AcceptedSet p → (s : ℕ) → s ≤ headroom p ↔ s * bound p < p.q

abbrev pub SumsRead : Type 0
SumsRead =
    (p : Parameters) → AcceptedSet p → (public ciphertext : List ℕ) (entry : Entry) → EntryHolds p public ciphertext entry →
    (k : ℕ) → k < p.n → small_of p (message_of p (modulo p.l entry.places)) k ≡ entry.places k % p.l

-- the message whose coefficients are an entry's totals
pub record TotalsRead (p : Parameters) (secret ciphertext : List ℕ) (entry : Entry) : Type 0 where
  pub decrypted : decrypt_answer p secret ciphertext (message_length p) (work_length p) ≡ accepted (message_of p entry.places)
  pub totals : (k : ℕ) → k < p.n → small_of p (message_of p entry.places) k ≡ entry.places k

abbrev pub Totals : Type 0
Totals =
    (p : Parameters) → AcceptedSet p → (public ciphertext : List ℕ) (entry : Entry) → EntryHolds p public ciphertext entry →
    entry.count * bound p < p.q → InRing p.l p.n entry.places →
    (secret : List ℕ) → ZeroOf p public secret → TotalsRead p secret ciphertext entry

abbrev pub OwnSecret : Type 0
OwnSecret =
    (p : Parameters) (random : List ℕ) (secret_len public_len work_len : ℕ) (keys : KeyPair) →
    keygen_answer p random secret_len public_len work_len ≡ accepted keys →
    (calls : List Call) → Legal p keys.public [] calls → (i : ℕ) → i < length (given_by p [] calls) →
    (get_or (ledger p (events p [] calls)) i no_entry).count * bound p < p.q →
    DecryptsTo p keys.secret (get_or (given_by p [] calls) i []) (get_or (ledger p (events p [] calls)) i no_entry).places

-- 01, "The book of sums", last three paragraphs, and demand 3: what is promised of a whole list of calls. proofs/ has the theorems.
--
--   AcceptedSet      a set that no test of 1 to 5 and 18 refuses; its edition is 1 or 2, and what is said here holds for both
--   ZeroOf           a secret that is a zero of the key (01: a fitting secret): its zero test answers yes, so both elements have degree n - 1
--                    (02, Q-3: every demand means this kind of secret)
--   InSmallRing      a list of the n coefficients of an element of R_ℓ;  secret_of: the octets of a secret, from its two elements
--   WellFormed       octets of a ciphertext's exact length with every coefficient below q (01: well formed)
--   DecryptsTo       decryption answers 6 where a length is not the exact one, otherwise 0 and the message of the numbers modulo ℓ
--   MadeKeys         every made key has its secret as a zero
--   SmallZeros       every pair of small elements is a zero of a key just where both have degree n - 1 and the key's value there is 0 (01: a
--                    small secret)
--   ZeroPastMessage  an entry's places past mlen bits hold 0
--   EntryHolds       what holds of a ciphertext and its entry
--   LedgerHolds      one claim about a list of calls: a ciphertext for each entry, and EntryHolds of each
--   DiffersBy        one ciphertext is another plus the key times a polynomial of degree at most dr
--   Alike            two ciphertexts that differ so decrypt alike
-- Assumes nothing.
use Rattle.std.specs.Prelude.{ℕ, ◌+◌, ◌*◌, ◌≤◌, ◌<◌, ◌%◌, ◌≡◌, ◌↔◌, true, cond, ◌&&◌, List, [], ◌++◌, eqb, length, get_or}
use Rattle.definitions.specs.Refusals.{first_refusal, Answer, untouched, accepted}
use Rattle.definitions.specs.Parameters.{Parameters, degree, small_bits, bound, set_tests, monomial_count, small_length, public_length, ciphertext_length, message_length, work_length}
use Rattle.definitions.specs.Ring.{Element, element_of, modulo, full_degree, ListInRing}
use Rattle.definitions.specs.Monomials.{Polynomial, product_of, value}
use Rattle.definitions.specs.Octets.{packed}
use Rattle.definitions.specs.Calls.{KeyPair, secret_x, secret_y, polynomial_from, elements_fit, keygen_answer, is_zero_answer, message_of, decrypt_answer}
use Rattle.definitions.specs.Ledger.{Call, Entry, no_entry, given_by, events, ledger, Legal}

abbrev pub AcceptedSet : Parameters → Type 0
AcceptedSet p = first_refusal (set_tests p) ≡ 0

abbrev pub ZeroOf : Parameters → List ℕ → List ℕ → Type 0
ZeroOf p public secret = is_zero_answer p secret public (work_length p) ≡ accepted true

-- coefficients of an element of R_ℓ, as a list (01: small)
abbrev pub InSmallRing : Parameters → List ℕ → Type 0
InSmallRing p = ListInRing p.l p.n

-- the octets of the secret u_x, u_y
abbrev pub secret_of : Parameters → List ℕ → List ℕ → List ℕ
secret_of p ux uy = packed (small_bits p.l) (small_length p) ux ++ packed (small_bits p.l) (small_length p) uy

pub record WellFormed (p : Parameters) (ciphertext : List ℕ) : Type 0 where
  pub exact : length ciphertext ≡ ciphertext_length p
  pub fits : elements_fit p (monomial_count (degree p)) ciphertext ≡ true

-- the answer where the numbers at the places are those of a message, before they are reduced modulo ℓ
abbrev pub decrypted_to : Parameters → Element → ℕ → ℕ → Answer (List ℕ)
decrypted_to p places message_len work_len =
    cond (eqb message_len (message_length p) && eqb work_len (work_length p)) (accepted (message_of p (modulo p.l places))) (untouched 6)

abbrev pub DecryptsTo : Parameters → List ℕ → List ℕ → Element → Type 0
DecryptsTo p secret ciphertext places =
    (message_len work_len : ℕ) →
    decrypt_answer p secret ciphertext message_len work_len ≡ decrypted_to p places message_len work_len

abbrev pub MadeKeys : Type 0
MadeKeys =
    (p : Parameters) (random : List ℕ) (secret_len public_len work_len : ℕ) (keys : KeyPair) →
    keygen_answer p random secret_len public_len work_len ≡ accepted keys →
    ZeroOf p keys.public keys.secret

-- a small secret (01): its octets are those of u_x and u_y, and it is a zero of the key just where u_x and u_y have degree n - 1 (02, Q-3) and the
-- key's value there is 0 in R_q
pub record SmallZero (p : Parameters) (public ux uy : List ℕ) : Type 0 where
  pub read_x : secret_x p (secret_of p ux uy) ≡ element_of ux
  pub read_y : secret_y p (secret_of p ux uy) ≡ element_of uy
  pub tested :
      ((full_degree p.n (element_of ux) ≡ true)
      × (full_degree p.n (element_of uy) ≡ true)
      × ((k : ℕ) → k < p.n → value p.n p.dx (polynomial_from p public) (element_of ux) (element_of uy) k % p.q ≡ 0))
      ↔ ZeroOf p public (secret_of p ux uy)

abbrev pub SmallZeros : Type 0
SmallZeros =
    (p : Parameters) → AcceptedSet p →
    (public : List ℕ) → length public ≡ public_length p → elements_fit p (monomial_count p.dx) public ≡ true →
    (ux uy : List ℕ) → InSmallRing p ux → InSmallRing p uy → SmallZero p public ux uy

-- the places past mlen bits hold 0
abbrev pub ZeroPastMessage : Parameters → Element → Type 0
ZeroPastMessage p places = (k : ℕ) → p.mlen ≤ k * small_bits p.l → places k ≡ 0

pub record EntryHolds (p : Parameters) (public ciphertext : List ℕ) (entry : Entry) : Type 0 where
  pub counted : 1 ≤ entry.count
  pub well_formed : WellFormed p ciphertext
  pub tail : ZeroPastMessage p entry.places
  pub decrypts :
      entry.count * bound p < p.q → (secret : List ℕ) → ZeroOf p public secret → DecryptsTo p secret ciphertext entry.places

abbrev pub LedgerHolds : Type 0
LedgerHolds =
    (p : Parameters) → AcceptedSet p → (public : List ℕ) (calls : List Call) → Legal p public [] calls →
    (length (given_by p [] calls) ≡ length (ledger p (events p [] calls)))
    × ((i : ℕ) → i < length (given_by p [] calls) →
    EntryHolds p public (get_or (given_by p [] calls) i []) (get_or (ledger p (events p [] calls)) i no_entry))

-- c is d plus the key times r, over R_q; r is any polynomial of degree dr, each coefficient any whole number that stands for it modulo q
abbrev pub DiffersBy : Parameters → List ℕ → Polynomial → List ℕ → List ℕ → Type 0
DiffersBy p public r c d =
    (i : ℕ) → i < monomial_count (degree p) → (k : ℕ) → k < p.n →
    polynomial_from p c i k % p.q
    ≡ (polynomial_from p d i k + product_of p.n p.dx p.dr (polynomial_from p public) r i k) % p.q

abbrev pub Alike : Type 0
Alike =
    (p : Parameters) → AcceptedSet p → (public secret : List ℕ) → ZeroOf p public secret →
    (c d : List ℕ) → WellFormed p c → WellFormed p d →
    (r : Polynomial) → DiffersBy p public r c d →
    (message_len work_len : ℕ) → decrypt_answer p secret c message_len work_len ≡ decrypt_answer p secret d message_len work_len

-- What decryption and the zero test share: a polynomial of degree d in octets, and its value at a secret.
--
--   half             the octets of one small element, from a place of the secret on
--   ValueInputs      a set and buffers that pass the tests up to the length test
--   value_from        the polynomial's value at the secret, in R_q
--   Unpacked         both elements of the secret stand in the first two parts of the work words
--   Valued           what a call of `value` leaves: the number of the tests after the length test, and where it is 0 the value in the third part
-- Assumes nothing.
use Rattle.std.specs.Prelude.{ℕ, ◌*◌, ◌≤◌, ◌<◌, ◌≡◌, List, length, take, drop}
use Rattle.definitions.specs.Refusals.{first_refusal}
use Rattle.definitions.specs.Parameters.{Parameters, monomial_count, small_length, secret_length, elements_length, work_length}
use Rattle.definitions.specs.Ring.{Element, modulo}
use Rattle.definitions.specs.Monomials.{value}
use Rattle.definitions.specs.Calls.{secret_x, secret_y, polynomial_from, secret_tests}
use Rattle.definitions.specs.Demand3.{AcceptedSet}
use Rattle.ring.specs.Work.{part}

abbrev pub half : Parameters → ℕ → List ℕ → List ℕ
half p from secret = take (small_length p) (drop from secret)

pub record ValueInputs (p : Parameters) (d : ℕ) (secret octets work : List ℕ) : Type 0 where
  pub set : AcceptedSet p
  pub degree-least : 0 < d
  pub degree-most : d ≤ 4
  pub secret-length : length secret ≡ secret_length p
  pub octets-length : length octets ≡ elements_length p (monomial_count d)
  pub work-length : length work ≡ work_length p

abbrev pub value_from : Parameters → ℕ → List ℕ → List ℕ → Element
value_from p d secret octets = modulo p.q (value p.n d (polynomial_from p octets) (secret_x p secret) (secret_y p secret))

pub record Unpacked (p : Parameters) (secret work : List ℕ) : Type 0 where
  pub x : (k : ℕ) → k < p.n → part work 0 k ≡ secret_x p secret k
  pub y : (k : ℕ) → k < p.n → part work p.n k ≡ secret_y p secret k

pub record Valued (p : Parameters) (d : ℕ) (secret octets : List ℕ) (refusal : ℕ) (work : List ℕ) : Type 0 where
  pub number : refusal ≡ first_refusal (secret_tests p d secret octets)
  pub value : refusal ≡ 0 → (k : ℕ) → k < p.n → part work (2 * p.n) k ≡ value_from p d secret octets k

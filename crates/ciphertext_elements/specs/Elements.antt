-- What a ciphertext's elements are taken from, and what their sums and octets are.
--
--   encrypted_sum     an element of m + X × r + ℓ × e, over the whole numbers, by the mask r
--   encrypted_from    the ciphertext's octets, from the mask in the work words and the octets that the noise e is drawn from
--   Encrypting       what a ciphertext is taken from: the key, the mask and the octets of the noise
-- Assumes nothing.
use Rattle.std.specs.Prelude.{ℕ, ◌+◌, ◌*◌, ◌≤◌, List, length}
use Rattle.definitions.specs.Parameters.{Parameters, degree, monomial_count, small_length}
use Rattle.definitions.specs.Ring.{Element}
use Rattle.definitions.specs.Monomials.{Polynomial, constant_term}
use Rattle.definitions.specs.Calls.{small_of, polynomial_from, octets_from, noise_of, encrypted_with}
use Rattle.mask_products.specs.Products.{mask_in, product_term, KeyAndMask}

abbrev pub encrypted_sum : Parameters → List ℕ → List ℕ → List ℕ → ℕ → Polynomial → Element
encrypted_sum p public message noise m mask k =
    product_term p (polynomial_from p public) m mask k + p.l * noise_of p noise m k + constant_term (degree p) (small_of p message) m k

abbrev pub encrypted_from : Parameters → List ℕ → List ℕ → List ℕ → List ℕ → List ℕ
encrypted_from p public message noise work =
    octets_from p (degree p) (encrypted_with p (polynomial_from p public) (small_of p message) (mask_in p work) (noise_of p noise))

pub record Encrypting (p : Parameters) (public noise work : List ℕ) : Type 0 where
  pub inputs : KeyAndMask p public work
  pub room : monomial_count (degree p) * small_length p ≤ length noise

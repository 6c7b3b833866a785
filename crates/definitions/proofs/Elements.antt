-- Why a polynomial's octets read back as the polynomial: the coefficient of t^k of element i stands at i × n + k, and qlen octets hold it.
--
--   InRings               every coefficient of so many elements below q
--   coefficients_of-..     the coefficients of a polynomial, end to end
--   polynomial_in_at       the coefficient at a place of the octets
--   octets_from-..         the octets of a polynomial: their length, that they fit, and what they read back as
-- Assumes nothing.
use Prim.Native.Nat.{ℕ, ◌+◌, ◌*◌, ◌/◌, ◌%◌, ◌<◌}
use mathlib.Core.Path.{◌≡◌, sym, ap, ap₂, ◌∙◌}
use mathlib.Core.Bool.{true}
use mathlib.Core.List.{List}
use native.Mathlib.Nat.{mod-lt, lt_trans, div-lt_iff_lt-mul, div-add-mod'}
use native.Mathlib.Omega.{arith}
use lib.Arith.{digits_lt, digits_div, digits_mod}
use lib.ListN.{length, get_or}
use Rattle.definitions.specs.Parameters.{Parameters, qlen, monomial_count, elements_length}
use Rattle.definitions.specs.Ring.{InRing}
use Rattle.definitions.specs.Monomials.{Polynomial, polynomial_of, coefficients_of}
use Rattle.definitions.specs.Octets.{coefficient_at, encoded}
use Rattle.definitions.specs.Calls.{decoded_elements, polynomial_in, polynomial_from, octets_from, elements_fit}
use Rattle.definitions.proofs.Sums.{length-tabulate, get_or_tabulate}
use Rattle.definitions.proofs.Octets.{AllBelow, length-encoded, get_or-decoded, decoded-encoded, coefficients_fit_true}
use Rattle.definitions.proofs.Parameters.{Accepted, modulus_word, qlen-holds}

abbrev pub InRings : ℕ → ℕ → ℕ → Polynomial → Type 0
InRings q n elements f = (i : ℕ) → i < elements → InRing q n (f i)

pub coefficients_of-length : (n elements : ℕ) (f : Polynomial) → length (coefficients_of n elements f) ≡ elements * n
unfolding coefficients_of
coefficients_of-length n elements f = length-tabulate (elements * n) _

pub coefficients_of-below : (q n elements : ℕ) (f : Polynomial) → 0 < n → InRings q n elements f → AllBelow q (coefficients_of n elements f)
unfolding coefficients_of
coefficients_of-below q n elements f pos h m l =
    let inside : m < elements * n = rw (coefficients_of-length n elements f) at l in
    rw (get_or_tabulate (elements * n) (λ m. f (m / n) (m % n)) 0 inside)
    (h (m / n) ((div-lt_iff_lt-mul pos).1 inside) (m % n) (mod-lt m pos))

pub polynomial_of-coefficients_of : (n elements : ℕ) (f : Polynomial) {i k : ℕ} → i < elements → k < n
    → polynomial_of n (coefficients_of n elements f) i k ≡ f i k
unfolding polynomial_of coefficients_of
polynomial_of-coefficients_of n elements f {i} {k} l s =
    get_or_tabulate (elements * n) (λ m. f (m / n) (m % n)) 0 (digits_lt l s) ∙ ap₂ f (digits_div i s) (digits_mod i s)

-- the coefficient at place m of the octets is one of its element
pub polynomial_in_at : (n len : ℕ) (octets : List ℕ) (m : ℕ) → polynomial_in n len octets (m / n) (m % n) ≡ coefficient_at len octets m
polynomial_in_at n len octets m = rw (div-add-mod' m n)

module _ (p : Parameters) (a : Accepted p) where
  -- the octets of so many coefficients below q read back as those coefficients
  pub decoded_elements-encoded : (elements : ℕ) (coefficients : List ℕ) → length coefficients ≡ elements * p.n → AllBelow p.q coefficients
      → decoded_elements p elements (encoded (qlen p.q) coefficients) ≡ coefficients
  unfolding decoded_elements
  decoded_elements-encoded elements coefficients e h =
      rw e at (decoded-encoded (qlen p.q) coefficients (λ i l. lt_trans (h i l) (qlen-holds p.q (modulus_word p a))))

  -- and, element by element, as their polynomial
  pub polynomial_from-encoded : (elements : ℕ) (coefficients : List ℕ) → length coefficients ≡ elements * p.n → AllBelow p.q coefficients
      → {i k : ℕ} → i < elements → k < p.n → polynomial_from p (encoded (qlen p.q) coefficients) i k ≡ polynomial_of p.n coefficients i k
  unfolding polynomial_of decoded_elements
  polynomial_from-encoded elements coefficients e h {i} {k} l s =
      sym (get_or-decoded (qlen p.q) (elements * p.n) (encoded (qlen p.q) coefficients) (digits_lt l s))
      ∙ ap (λ (c : List ℕ). get_or c (i * p.n + k) 0) (decoded_elements-encoded elements coefficients e h)

  pub elements_fit-encoded : (elements : ℕ) (coefficients : List ℕ) → length coefficients ≡ elements * p.n → AllBelow p.q coefficients
      → elements_fit p elements (encoded (qlen p.q) coefficients) ≡ true
  unfolding elements_fit
  elements_fit-encoded elements coefficients e h =
      rw (decoded_elements-encoded elements coefficients e h) (coefficients_fit_true p.q coefficients h)

  module _ (d : ℕ) (f : Polynomial) where
    pub octets_from-length : length (octets_from p d f) ≡ elements_length p (monomial_count d)
    unfolding octets_from elements_length
    octets_from-length =
        length-encoded (qlen p.q) _ ∙ ap (λ (x : ℕ). x * qlen p.q) (coefficients_of-length p.n (monomial_count d) f)

    module _ (h : InRings p.q p.n (monomial_count d) f) where
      below : AllBelow p.q (coefficients_of p.n (monomial_count d) f)
      below = coefficients_of-below p.q p.n (monomial_count d) f (omega (arith, a.ring_least)) h

      pub octets_from-fits : elements_fit p (monomial_count d) (octets_from p d f) ≡ true
      unfolding octets_from
      octets_from-fits = elements_fit-encoded (monomial_count d) _ (coefficients_of-length p.n (monomial_count d) f) below

      pub polynomial_from-octets_from : {i k : ℕ} → i < monomial_count d → k < p.n → polynomial_from p (octets_from p d f) i k ≡ f i k
      unfolding octets_from
      polynomial_from-octets_from l s =
          polynomial_from-encoded (monomial_count d) _ (coefficients_of-length p.n (monomial_count d) f) below l s
          ∙ polynomial_of-coefficients_of p.n (monomial_count d) f l s

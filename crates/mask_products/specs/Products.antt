-- How one element of the product X × r is taken in the work words: the mask's elements stand in the first six parts, a key element is loaded
-- into part 6, and part 7 takes the sum.
--
--   mask_in           the mask whose elements stand in the first six parts
--   sum_in            the sum in part 7
--   pair_term         what a pair of monomials adds to the m-th element: the product of their elements where they give the m-th monomial
--   first_terms       the first so many of some terms, added
--   element_terms     what the key's i-th element adds, with every element of the mask
--   product_term      the m-th element of the product of a key and a mask
--   KeyAndMask       the set is accepted, the key's octets and the work words have their exact lengths, and the key's and the mask's
--                    coefficients are below q
--   Adding           the same with a place m of the product and a sum below q
--   SumIs            the sum is now some element that goes by the mask, modulo q, and the mask is as it was
--   SumGains         the same, added to the sum that was there
-- Assumes nothing.
use Rattle.std.specs.Prelude.{ℕ, ◌+◌, ◌*◌, ◌%◌, ◌<◌, ◌≡◌, true, List, length, get_or, take}
use Rattle.definitions.specs.Sequences.{sum}
use Rattle.definitions.specs.Parameters.{Parameters, degree, monomial_count, public_length, work_length}
use Rattle.definitions.specs.Ring.{Element, InRing, conv}
use Rattle.definitions.specs.Monomials.{Polynomial, monomial_at, same_monomial, product_of}
use Rattle.definitions.specs.Calls.{elements_fit}
use Rattle.definitions.specs.Demand3.{AcceptedSet}
use Rattle.ring.specs.Work.{part}

abbrev pub mask_in : Parameters → List ℕ → Polynomial
mask_in p work j k = get_or (take (6 * p.n) work) (j * p.n + k) 0

abbrev pub sum_in : Parameters → List ℕ → Element
sum_in p work = part work (7 * p.n)

abbrev pub pair_term : Parameters → Polynomial → ℕ → ℕ → ℕ → Polynomial → Element
pair_term p key m i j mask k =
    conv p.n (key i) (mask j) k * same_monomial (monomial_at p.dx i) (monomial_at p.dr j) (monomial_at (degree p) m)

abbrev pub first_terms : ℕ → (ℕ → Polynomial → Element) → Polynomial → Element
first_terms count f mask k = sum count (λ i. f i mask k)

abbrev pub element_terms : Parameters → Polynomial → ℕ → ℕ → Polynomial → Element
element_terms p key m i = first_terms (monomial_count p.dr) (pair_term p key m i)

abbrev pub product_term : Parameters → Polynomial → ℕ → Polynomial → Element
product_term p key m mask = product_of p.n p.dx p.dr key mask m

pub record KeyAndMask (p : Parameters) (public work : List ℕ) : Type 0 where
  pub set : AcceptedSet p
  pub public-exact : length public ≡ public_length p
  pub fits : elements_fit p (monomial_count p.dx) public ≡ true
  pub work-exact : length work ≡ work_length p
  pub mask : (j : ℕ) → j < monomial_count p.dr → InRing p.q p.n (mask_in p work j)

pub record Adding (p : Parameters) (m : ℕ) (public work : List ℕ) : Type 0 where
  pub inputs : KeyAndMask p public work
  pub place : m < monomial_count (degree p)
  pub below : InRing p.q p.n (sum_in p work)

pub record SumIs (p : Parameters) (f : Polynomial → Element) (old new : List ℕ) : Type 0 where
  pub sum : (k : ℕ) → k < p.n → sum_in p new k ≡ f (mask_in p old) k % p.q
  pub mask : take (6 * p.n) new ≡ take (6 * p.n) old
  pub as_long : length new ≡ length old

pub record SumGains (p : Parameters) (f : Polynomial → Element) (old new : List ℕ) : Type 0 where
  pub is : SumIs p (λ mask k. sum_in p old k + f mask k) old new

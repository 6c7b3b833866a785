-- How X × r is taken where both have one degree: X_i r_j + X_j r_i is (X_i + X_j)(r_i + r_j) less X_i r_i and X_j r_j, and the products
-- X_i r_i, the diagonal, are taken once. The key's elements stand in a list, end to end, and the diagonal behind them.
--
--   key_in, diagonal_in   the key's elements and the diagonal in the list
--   square           X_i r_i in R_q;  pair_sum: the sum of two elements of a polynomial
--   element_prepared  the list with the key's i-th element and its product written
--   Prepared         the first so many elements of the key, and as many of the diagonal, stand in the list
--   PreparedKey      all of a public key's and a mask's do, and both have one degree
--   Shared           what is asked of the list and the mask;  SharedAdding: the same with a place m of the product and a sum below q
--   both_terms        what the pair (i, j) and the pair (j, i) add to the m-th element
--   row_of_pairs       what the pairs of i with itself and with every place before it add
-- Assumes nothing.
use Rattle.std.specs.Prelude.{ℕ, ◌+◌, ◌*◌, ◌%◌, ◌≤◌, ◌<◌, ◌≡◌, List, length}
use Rattle.definitions.specs.Sequences.{tabulate}
use Rattle.definitions.specs.Parameters.{Parameters, degree, monomial_count, work_length}
use Rattle.definitions.specs.Ring.{Element, InRing, conv}
use Rattle.definitions.specs.Monomials.{Polynomial}
use Rattle.definitions.specs.Calls.{polynomial_from}
use Rattle.definitions.specs.Demand3.{AcceptedSet}
use Rattle.ring.specs.Work.{part, written}
use Rattle.mask_products.specs.Products.{mask_in, sum_in, pair_term, first_terms}

abbrev pub key_in : Parameters → List ℕ → Polynomial
key_in p list i = part list (i * p.n)

abbrev pub diagonal_in : Parameters → List ℕ → Polynomial
diagonal_in p list i = part list ((monomial_count p.dx + i) * p.n)

abbrev pub square : Parameters → Polynomial → Polynomial → Polynomial
square p key mask i k = conv p.n (key i) (mask i) k % p.q

abbrev pub pair_sum : Polynomial → ℕ → ℕ → Element
pair_sum f i j k = f i k + f j k

abbrev pub element_prepared : Parameters → Polynomial → Polynomial → ℕ → List ℕ → List ℕ
element_prepared p key mask i list =
    written ((monomial_count p.dx + i) * p.n) (tabulate p.n (square p key mask i)) (written (i * p.n) (tabulate p.n (key i)) list)

pub record Prepared (p : Parameters) (count : ℕ) (key mask : Polynomial) (list : List ℕ) : Type 0 where
  pub elements : (i : ℕ) → i < count → (k : ℕ) → k < p.n → key_in p list i k ≡ key i k
  pub squares : (i : ℕ) → i < count → (k : ℕ) → k < p.n → diagonal_in p list i k ≡ square p key mask i k

pub record PreparedKey (p : Parameters) (public work list : List ℕ) : Type 0 where
  pub one-degree : p.dx ≡ p.dr
  pub room : 2 * (monomial_count p.dx * p.n) ≤ length list
  pub prepared : Prepared p (monomial_count p.dx) (polynomial_from p public) (mask_in p work) list

pub record Shared (p : Parameters) (work list : List ℕ) : Type 0 where
  pub set : AcceptedSet p
  pub one-degree : p.dx ≡ p.dr
  pub work-exact : length work ≡ work_length p
  pub room : 2 * (monomial_count p.dx * p.n) ≤ length list
  pub key : (i : ℕ) → i < monomial_count p.dx → InRing p.q p.n (key_in p list i)
  pub mask : (i : ℕ) → i < monomial_count p.dx → InRing p.q p.n (mask_in p work i)
  pub squares : (i : ℕ) → i < monomial_count p.dx → (k : ℕ) → k < p.n → diagonal_in p list i k ≡ square p (key_in p list) (mask_in p work) i k

pub record SharedAdding (p : Parameters) (m : ℕ) (work list : List ℕ) : Type 0 where
  pub inputs : Shared p work list
  pub place : m < monomial_count (degree p)
  pub below : InRing p.q p.n (sum_in p work)

abbrev pub both_terms : Parameters → Polynomial → ℕ → ℕ → ℕ → Polynomial → Element
both_terms p key m i j mask k = pair_term p key m i j mask k + pair_term p key m j i mask k

abbrev pub row_of_pairs : Parameters → Polynomial → ℕ → ℕ → Polynomial → Element
row_of_pairs p key m i mask k = pair_term p key m i i mask k + first_terms i (both_terms p key m i) mask k

-- 01, "Ring, monomials, octets", first paragraph: R_q and R_ℓ.
--
--   Element          a polynomial in t below degree n: the coefficient of t^k stands at k; what stands at n and above is never read
--   element_of        the element whose coefficients are a list's
--   modulo           each coefficient modulo q: an element of R_q is one that this leaves as it is
--   add, scale       the sum of two elements; an element times a number
--   conv             the product with t^n = 1: a_i × b_j goes to the place (i + j) modulo n (the cyclic convolution)
--   multiply_add      a × b + c in R_q (000, section 3.2; 02, Q-8)
--   one, power       1, and the powers of an element
--   full_degree       whether an element has degree n - 1: its coefficient of t^(n - 1) is not zero (02, Q-3)
--   InRing           every coefficient below q: R_q, and R_ℓ where ℓ stands for q;  ListInRing: a list of its n coefficients
--
-- Sum and product are taken over the whole numbers; those of R_q are these modulo q, as multiply_add is taken.
-- Assumes nothing.
use Rattle.std.specs.Prelude.{ℕ, zero, suc, ◌+◌, ◌-◌, ◌*◌, ◌%◌, ◌<◌, ◌≡◌, Bool, not, List, eqb, length, get_or}
use Rattle.definitions.specs.Sequences.{sum, same_number}

abbrev pub Element : Type 0
Element = ℕ → ℕ

abbrev pub element_of : List ℕ → Element
element_of coefficients k = get_or coefficients k 0

unfoldable pub modulo : ℕ → Element → Element
modulo q a k = a k % q

unfoldable pub add : Element → Element → Element
add a b k = a k + b k

unfoldable pub scale : ℕ → Element → Element
scale c a k = c * a k

unfoldable pub conv : ℕ → Element → Element → Element
conv n a b k = sum n (λ i. a i * sum n (λ j. b j * same_number ((i + j) % n) k))

unfoldable pub multiply_add : ℕ → ℕ → Element → Element → Element → Element
multiply_add q n a b c k = (conv n a b k + c k) % q

unfoldable pub one : Element
one k = same_number 0 k

unfoldable pub power : ℕ → Element → ℕ → Element
power n a zero = one
power n a (suc i) = conv n a (power n a i)

unfoldable pub full_degree : ℕ → Element → Bool
full_degree n u = not (eqb (u (n - 1)) 0)

abbrev pub InRing : ℕ → ℕ → Element → Type 0
InRing q n a = (k : ℕ) → k < n → a k < q

pub record ListInRing (q n : ℕ) (coefficients : List ℕ) : Type 0 where
  pub sized : length coefficients ≡ n
  pub below : InRing q n (element_of coefficients)

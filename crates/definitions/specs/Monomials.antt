-- 01, "Ring, monomials, octets", second paragraph: the monomials' order, and polynomials in x and y over R_q.
--
--   Monomial         x^x × y^y, by its two exponents
--   of_degree         those of one total degree, by falling power of x
--   monomials        those of total degree at most d: by falling total degree, then by falling power of x
--   monomial_at       the one at a place of that list
--   Polynomial       a polynomial in x and y: the element at each place of its degree's list
--   polynomial_of     the polynomial whose elements stand end to end in a list of coefficients
--   coefficients_of   its coefficients end to end, element after element
--   constant_term     the polynomial of degree d that is an element, as its constant: the constant is the last of the list
--   sum_of, product_of the sum of two polynomials of one degree; the product, of degree d + e
--   evaluated        a monomial at (u_x, u_y)
--   value_over        the sum of the first terms of a polynomial at (u_x, u_y); value: of all of them (01: c(u_x, u_y))
-- Assumes nothing.
use Rattle.std.specs.Prelude.{ℕ, zero, suc, ◌+◌, ◌-◌, ◌*◌, ◌/◌, ◌%◌, cond, ◌&&◌, List, ◌++◌, eqb, get_or}
use Rattle.definitions.specs.Sequences.{sum, tabulate}
use Rattle.definitions.specs.Parameters.{monomial_count}
use Rattle.definitions.specs.Ring.{Element, add, conv, power}

pub record Monomial : Type 0 where
  pub x : ℕ
  pub y : ℕ

unfoldable pub of_degree : ℕ → List Monomial
of_degree k = tabulate (suc k) (λ j. record { x = k - j; y = j })

unfoldable pub monomials : ℕ → List Monomial
monomials zero = of_degree zero
monomials (suc d) = of_degree (suc d) ++ monomials d

unfoldable pub monomial_at : ℕ → ℕ → Monomial
monomial_at d i = get_or (monomials d) i (record { x = 0; y = 0 })

abbrev pub Polynomial : Type 0
Polynomial = ℕ → Element

unfoldable pub polynomial_of : ℕ → List ℕ → Polynomial
polynomial_of n coefficients i k = get_or coefficients (i * n + k) 0

unfoldable pub coefficients_of : ℕ → ℕ → Polynomial → List ℕ
coefficients_of n elements f = tabulate (elements * n) (λ m. f (m / n) (m % n))

unfoldable pub constant_term : ℕ → Element → Polynomial
constant_term d a i k = cond (eqb (suc i) (monomial_count d)) (a k) 0

unfoldable pub sum_of : Polynomial → Polynomial → Polynomial
sum_of f g i = add (f i) (g i)

-- 1 where the product of two monomials is a third, otherwise 0
unfoldable pub same_monomial : Monomial → Monomial → Monomial → ℕ
same_monomial a b c = cond (eqb (a.x + b.x) c.x && eqb (a.y + b.y) c.y) 1 0

unfoldable pub product_of : ℕ → ℕ → ℕ → Polynomial → Polynomial → Polynomial
product_of n d e f g m k =
    sum (monomial_count d) (λ i.
    sum (monomial_count e) (λ j.
    conv n (f i) (g j) k * same_monomial (monomial_at d i) (monomial_at e j) (monomial_at (d + e) m)))

unfoldable pub evaluated : ℕ → Monomial → Element → Element → Element
evaluated n m ux uy = conv n (power n ux m.x) (power n uy m.y)

unfoldable pub value_over : ℕ → ℕ → ℕ → Polynomial → Element → Element → Element
value_over terms n d f ux uy k = sum terms (λ i. conv n (f i) (evaluated n (monomial_at d i) ux uy) k)

unfoldable pub value : ℕ → ℕ → Polynomial → Element → Element → Element
value n d f ux uy = value_over (monomial_count d) n d f ux uy

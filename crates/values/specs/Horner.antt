-- How a value is taken: by rows of one power of y each, the highest first, and each row by falling powers of x (Horner's rule, twice).
--
--   horner           so many elements h 0, h 1, .. of a row, the next added to u times those before it
--   stepped          an element after a step of it, modulo q: the first is taken as it is, each other one added to u times those before it
--   starts           the place in degree d's list from which the terms of total degree d - s stand: s of its degrees come before
--   term_place        the place of x^(t - s) y^(d - t), which is d - t behind the first of its total degree
--   row_of            the row of y^(d - t): its terms by rising s
--   nested           the rows, by rising t
--   fits_at           whether the coefficients of the element at a place of the octets are below q;  row_fits: of a row's elements
--   Placed           an element was written at an offset, and all before it is as it was
-- Assumes nothing.
use Rattle.std.specs.Prelude.{ℕ, zero, suc, ◌+◌, ◌-◌, ◌<◌, ◌≡◌, Bool, List, length, get_or}
use Rattle.definitions.specs.Sequences.{sum, every, tabulate}
use Rattle.definitions.specs.Ring.{Element, conv, multiply_add}
use Rattle.definitions.specs.Monomials.{Polynomial}
use Rattle.definitions.specs.Octets.{coefficients_fit}
use Rattle.definitions.specs.Calls.{polynomial_in}
use Rattle.ring.specs.Work.{part}

unfoldable pub horner : ℕ → Element → (ℕ → Element) → ℕ → Element
horner n u h zero k = 0
horner n u h (suc c) k = conv n (horner n u h c) u k + h c k

unfoldable pub stepped : ℕ → ℕ → ℕ → Element → Element → Element → Element
stepped n q zero a u x k = x k
stepped n q (suc c) a u x k = multiply_add q n a u x k

unfoldable pub starts : ℕ → ℕ → ℕ
starts d s = sum s (λ i. d + 1 - i)

abbrev pub term_place : ℕ → ℕ → ℕ → ℕ
term_place d t s = starts d s + (d - t)

unfoldable pub row_of : ℕ → ℕ → Polynomial → Element → ℕ → Element
row_of n d f ux t = horner n ux (λ s. f (term_place d t s)) (suc t)

unfoldable pub nested : ℕ → ℕ → Polynomial → Element → Element → Element
nested n d f ux uy = horner n uy (row_of n d f ux) (suc d)

abbrev pub fits_at : ℕ → ℕ → ℕ → List ℕ → ℕ → Bool
fits_at q n qlen octets i = coefficients_fit q (tabulate n (polynomial_in n qlen octets i))

abbrev pub row_fits : ℕ → (ℕ → Bool) → ℕ → Bool
row_fits d fits t = every (suc t) (λ s. fits (term_place d t s))

pub record Placed (n at : ℕ) (f : Element) (old new : List ℕ) : Type 0 where
  pub placed : (k : ℕ) → k < n → part new at k ≡ f k
  pub before : (i : ℕ) → i < at → get_or new i 0 ≡ get_or old i 0
  pub as_long : length new ≡ length old

-- The monomials by rising power of y: where x^i y^j stands in a degree's list, and a sum over the list as rows. What a nested Horner scheme goes by.
-- Assumes nothing.
use Prim.Native.Nat.{ℕ, zero, suc, ◌+◌, ◌-◌, ◌≤◌, ◌<◌}
use mathlib.Core.Path.{◌≡◌, refl, ap, ap₂, ◌∙◌}
use native.Mathlib.Nat.{add-zero, add-suc, sub_self, zero-add}
use native.Mathlib.Numerals.{add-two}
use native.Mathlib.Omega.{arith}
use Rattle.definitions.specs.Sequences.{sum}
use Rattle.definitions.specs.Parameters.{monomial_count}
use Rattle.definitions.specs.Monomials.{monomial_at}
use Rattle.definitions.proofs.Sums.{sum_cong, sum-add, sum-append}
use Rattle.definitions.proofs.Monomials.{monomial_count-suc, monomial_count_mono, monomial_count-le, monomial_at_rest}

-- the lower degree's list is the tail of the higher one's
pub monomial_at-tail : (d e i : ℕ) → monomial_at (d + e) (monomial_count (d + e) - monomial_count d + i) ≡ monomial_at d i
monomial_at-tail d zero i = rw (add-zero d, sub_self (monomial_count d), zero-add i)
monomial_at-tail d (suc e) i =
    let at : monomial_count (suc (d + e)) - monomial_count d + i ≡ d + e + 2 + (monomial_count (d + e) - monomial_count d + i) =
    omega (arith, monomial_count-suc (d + e), monomial_count_mono d e) in
    rw (add-suc d e, at) (monomial_at_rest (d + e) _ ∙ monomial_at-tail d e i)

-- the place of x^i y^j in the list of degree d
abbrev pub place_of : ℕ → ℕ → ℕ → ℕ
place_of d i j = monomial_count d - monomial_count (i + j) + j

pub place_of_suc : (d i j : ℕ) → i + j ≤ d → place_of (suc d) i j ≡ d + 2 + place_of d i j
place_of_suc d i j l = omega (arith, monomial_count-suc d, monomial_count-le (i + j) d l)

place_of_top : (d i j : ℕ) → i + j ≡ d → place_of d i j ≡ j
place_of_top d i j e = rw (e, sub_self (monomial_count d)) (zero-add j)

sum-suc : (n : ℕ) (g : ℕ → ℕ) → sum (suc n) g ≡ sum n g + g n
unfolding sum
sum-suc n g = refl

sum_one : (g : ℕ → ℕ) → sum 1 g ≡ g 0
unfolding sum
sum_one g = zero-add (g 0)

module _ (d : ℕ) (g : ℕ → ℕ) where
  abbrev row : ℕ → ℕ
  row j = sum (suc (d - j)) (λ i. g (d + 2 + place_of d i j))

  abbrev next : ℕ → ℕ
  next j = sum (suc (suc d - j)) (λ i. g (place_of (suc d) i j))

  next_row : (j : ℕ) → j < suc d → next j ≡ row j + g j
  next_row j l =
      let e : suc d - j ≡ suc (d - j) = omega arith in
      ap (λ (m : ℕ). sum (suc m) (λ i. g (place_of (suc d) i j))) e
      ∙ sum-suc (suc (d - j)) (λ i. g (place_of (suc d) i j))
      ∙ ap₂ ◌+◌ (sum_cong (suc (d - j)) (λ i s. ap g (place_of_suc d i j (omega arith)))) (ap g (place_of_top (suc d) (suc (d - j)) j (omega arith)))

  next_last : next (suc d) ≡ g (suc d)
  next_last =
      ap (λ (m : ℕ). sum (suc m) (λ i. g (place_of (suc d) i (suc d)))) (sub_self (suc d))
      ∙ sum_one (λ i. g (place_of (suc d) i (suc d)))
      ∙ ap g (place_of_top (suc d) 0 (suc d) (zero-add (suc d)))

  rows_step : sum (d + 2) g + sum (suc d) row ≡ sum (suc (suc d)) next
  rows_step =
      let first : sum (d + 2) g ≡ sum (suc d) g + g (suc d) = ap (λ (m : ℕ). sum m g) (add-two d) ∙ sum-suc (suc d) g in
      let rows : sum (suc d) next ≡ sum (suc d) row + sum (suc d) g = sum_cong (suc d) next_row ∙ sum-add (suc d) row g in
      omega (arith, first, rows, sum-suc (suc d) next, next_last)

-- a sum over the list, row by row
pub sum_rows : (d : ℕ) (g : ℕ → ℕ) → sum (monomial_count d) g ≡ sum (suc d) (λ j. sum (suc (d - j)) (λ i. g (place_of d i j)))
sum_rows zero g = unfold sum monomial_count in omega arith
sum_rows (suc d) g =
    ap (λ (m : ℕ). sum m g) (monomial_count-suc d)
    ∙ sum-append (d + 2) (monomial_count d) g
    ∙ ap (λ (x : ℕ). sum (d + 2) g + x) (sum_rows d (λ m. g (d + 2 + m)))
    ∙ rows_step d g

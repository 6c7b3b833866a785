-- The table's rule, proved once by a test that is computed at every place of every degree's list.
-- Assumes nothing.
use Prim.Native.Nat.{ℕ, ◌+◌, ◌-◌, ◌≤◌, ◌<◌}
use native.Mathlib.Omega.{arith}
use mathlib.Core.Path.{◌≡◌, refl, sym, ◌∙◌, ap, ap₂}
use mathlib.Core.Bool.{Bool, true, false, cond, ◌&&◌, not}
use mathlib.Core.List.{List, [], ◌∷◌}
use borrow.Author.Tests.{eqb-true, not-true, not-false}
use lib.Dec.{eqb}
use lib.ListN.{get_or}
use Rattle.definitions.specs.Sequences.{every, tabulate}
use Rattle.definitions.specs.Parameters.{monomial_count}
use Rattle.definitions.specs.Monomials.{Monomial, of_degree, monomials, monomial_at}
use Rattle.definitions.proofs.Sums.{every_at}
use Rattle.definitions.proofs.Tests.{both_true}
use Rattle.definitions.proofs.Monomials.{monomials-degree}
use Rattle.monomials.specs.declared.Exponents.{Exponents}
use Rattle.monomials.specs.Pairs.{monomial_from}

abbrev pair : ℕ → ℕ → Exponents
pair x y = record { x = x; y = y }

abbrev pub pairs : List Exponents
pairs = pair 4 0 ∷ pair 3 1 ∷ pair 2 2 ∷ pair 1 3 ∷ pair 0 4 ∷ pair 3 0 ∷ pair 2 1 ∷ pair 1 2 ∷ pair 0 3 ∷ pair 2 0 ∷ pair 1 1 ∷ pair 0 2 ∷ pair 1 0 ∷ pair 0 1 ∷ pair 0 0 ∷ []

abbrev pub starts : List ℕ
starts = 14 ∷ 12 ∷ 9 ∷ 5 ∷ 0 ∷ []

-- the starts: each degree's list is the table's tail
start_right : ℕ → Bool
start_right d = eqb (get_or starts d 0 + monomial_count d) 15

starts_right : every 5 start_right ≡ true
unfolding every start_right monomial_count
starts_right = refl

pub start_at : (d : ℕ) → d < 5 → get_or starts d 0 + monomial_count d ≡ 15
unfolding start_right
start_at d l = eqb-true _ _ (every_at 5 start_right starts_right l)

-- the pairs: at each place of each degree's list the exponents of its monomial
same_exponents : Monomial → Monomial → Bool
same_exponents a b = eqb a.x b.x && eqb a.y b.y

same_exponents_lem : (a b : Monomial) → same_exponents a b ≡ true → a ≡ b
unfolding same_exponents
same_exponents_lem a b e =
    let t = both_true (eqb a.x b.x) (eqb a.y b.y) e in
    ap₂ (λ (x y : ℕ). record { x = x; y = y }) (eqb-true _ _ t.0) (eqb-true _ _ t.1)

pair_right : ℕ → ℕ → Bool
pair_right d i = same_exponents (monomial_from (get_or pairs (15 - monomial_count d + i) (pair 0 0))) (monomial_at d i)

pairs_right : every 5 (λ d. every (monomial_count d) (pair_right d)) ≡ true
unfolding every pair_right same_exponents monomial_count monomial_at monomials of_degree tabulate
pairs_right = refl

pub pair_at : (at d i : ℕ) → at + monomial_count d ≡ 15 → d < 5 → i < monomial_count d → monomial_from (get_or pairs (at + i) (pair 0 0)) ≡ monomial_at d i
unfolding pair_right
pair_at at d i e l s =
    let start : at ≡ 15 - monomial_count d = omega arith in
    rw start (same_exponents_lem _ _ (every_at (monomial_count d) (pair_right d) (every_at 5 (λ d. every (monomial_count d) (pair_right d)) pairs_right l) s))

-- what a pair of exponents tells of the monomial that it names
pub exponents_small : (d i : ℕ) (e : Exponents) → monomial_from e ≡ monomial_at d i → e.x + e.y ≤ d
exponents_small d i e same =
    let x : e.x ≡ (monomial_at d i).x = ap (λ (m : Monomial). m.x) same in
    let y : e.y ≡ (monomial_at d i).y = ap (λ (m : Monomial). m.y) same in
    omega (arith, monomials-degree d i)

-- a test that was told as a number
pub flag_none : (t : Bool) {x : ℕ} → cond t 1 0 ≡ x → not t ≡ true → x ≡ 0
flag_none t e h = sym e ∙ ap (λ (u : Bool). cond u 1 0) (not-true t h)

pub flag_one : (t : Bool) {x : ℕ} → cond t 1 0 ≡ x → not t ≡ false → x ≡ 1
flag_one t e h = sym e ∙ ap (λ (u : Bool). cond u 1 0) (not-false t h)

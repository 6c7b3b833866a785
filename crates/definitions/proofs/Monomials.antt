-- The list of monomials: its length, its order, that a lower degree's list is its tail, and that every monomial stands in it once.
--
--   total_degree      the sum of a monomial's exponents
--   times            the product of two monomials
--   Before           the order of 01: a greater total degree, or the same and a greater power of x
-- Assumes nothing.
use Prim.Native.Nat.{ℕ, zero, suc, ◌+◌, ◌-◌, ◌*◌, ◌≤◌, ◌<◌}
use native.Mathlib.Nat.{add-zero, add-suc, mul-zero, mul-one, lt_irrefl, le_refl, sub_self}
use native.Mathlib.Numerals.{add-two}
use native.Mathlib.Omega.{arith}
use native.Mathlib.Decide.{dec_lt, dec_le, ℕ_discrete}
use mathlib.Core.Path.{◌≡◌, refl, sym, ◌∙◌, ap, ap₂}
use mathlib.Core.Logic.{◌⊎◌, inl, inr, ⊎_elim}
use lib.ListN.{length, drop, length-append, get_or-append}
use lib.Seq.{get_or-append-add, drop-append-add}
use borrow.Author.Tests.{eq-eqb, ne_eqb}
use Rattle.definitions.specs.Sequences.{sum, tabulate}
use Rattle.definitions.specs.Parameters.{monomial_count}
use Rattle.definitions.specs.Monomials.{Monomial, of_degree, monomials, monomial_at, same_monomial}
use Rattle.definitions.proofs.Sums.{sum_cong, sum_const, sum-append, sum-single, length-tabulate, get_or_tabulate}

abbrev pub total_degree : Monomial → ℕ
total_degree m = m.x + m.y

abbrev pub times : Monomial → Monomial → Monomial
times a b = record { x = a.x + b.x; y = a.y + b.y }

abbrev pub Before : Monomial → Monomial → Type 0
Before a b = (total_degree b < total_degree a) ⊎ ((total_degree a ≡ total_degree b) × (b.x < a.x))

pub monomial_count-suc : (d : ℕ) → monomial_count (suc d) ≡ d + 2 + monomial_count d
unfolding monomial_count
monomial_count-suc d = omega arith

pub monomial_count_pos : (d : ℕ) → 0 < monomial_count d
unfolding monomial_count
monomial_count_pos d = omega arith

-- the constant's monomial, and the others
pub count-suc : (d : ℕ) → monomial_count d ≡ suc (monomial_count d - 1)
count-suc d = omega (arith, monomial_count_pos d)

pub monomial_count_mono : (d e : ℕ) → monomial_count d ≤ monomial_count (d + e)
monomial_count_mono d zero = rw (add-zero d) (le_refl (monomial_count d))
monomial_count_mono d (suc e) = rw (add-suc d e) (omega (arith, monomial_count-suc (d + e), monomial_count_mono d e))

pub monomial_count-le : (d e : ℕ) → d ≤ e → monomial_count d ≤ monomial_count e
monomial_count-le d e l = let same : d + (e - d) ≡ e = omega arith in rw same at (monomial_count_mono d (e - d))

-- a key or a mask of an accepted set has at most six, a ciphertext at most fifteen
pub count-six : (d : ℕ) → d ≤ 2 → monomial_count d ≤ 6
unfolding monomial_count
count-six d l = monomial_count-le d 2 l

pub count_fifteen : (d : ℕ) → d ≤ 4 → monomial_count d ≤ 15
unfolding monomial_count
count_fifteen d l = monomial_count-le d 4 l

length-of_degree : (d : ℕ) → length (of_degree (suc d)) ≡ d + 2
unfolding of_degree
length-of_degree d = length-tabulate (suc (suc d)) _ ∙ sym (add-two d)

pub length-monomials : (d : ℕ) → length (monomials d) ≡ monomial_count d
unfolding monomials
length-monomials zero = unfold of_degree tabulate monomial_count in refl
length-monomials (suc d) = length-append (of_degree (suc d)) (monomials d) ∙ ap₂ ◌+◌ (length-of_degree d) (length-monomials d) ∙ sym (monomial_count-suc d)

-- where a place of a degree's list stands: in its first total degree, or in the list of the degree before
pub monomial_at-first : (d i : ℕ) → i < d + 2 → monomial_at (suc d) i ≡ record { x = suc d - i; y = i }
unfolding monomial_at monomials
monomial_at-first d i l =
    get_or-append (of_degree (suc d)) (monomials d) _ i (rw (length-of_degree d) l)
    ∙ unfold of_degree in get_or_tabulate (suc (suc d)) _ _ (rw add-two at l)

pub monomial_at_rest : (d i : ℕ) → monomial_at (suc d) (d + 2 + i) ≡ monomial_at d i
unfolding monomial_at monomials
monomial_at_rest d i = rw (← length-of_degree d) (get_or-append-add (of_degree (suc d)) (monomials d) i _)

monomials-split : (d i : ℕ) → ((i < d + 2) × (monomial_at (suc d) i ≡ record { x = suc d - i; y = i })) ⊎ ((j : ℕ) × (i ≡ d + 2 + j) × (monomial_at (suc d) i ≡ monomial_at d j))
monomials-split d i =
    elim (dec_lt i (d + 2)) [
      | yes l ↦ inl (l, monomial_at-first d i l)
      | no l ↦ let e : i ≡ d + 2 + (i - (d + 2)) = omega arith in
          inr (i - (d + 2), e, ap (monomial_at (suc d)) e ∙ monomial_at_rest d (i - (d + 2)))
    ]

at_zero : (i : ℕ) → monomial_at 0 i ≡ record { x = 0; y = 0 }
unfolding monomial_at monomials of_degree tabulate
at_zero zero = refl
at_zero (suc i) = refl

pub monomials-degree : (d i : ℕ) → total_degree (monomial_at d i) ≤ d
monomials-degree zero i = rw (at_zero i) (le_refl 0)
monomials-degree (suc d) i =
    ⊎_elim (λ w. rw w.1 (omega arith)) (λ w. rw w.2 (omega (arith, monomials-degree d w.0))) (monomials-split d i)

pub monomials_order : (d : ℕ) {i j : ℕ} → i < j → j < monomial_count d → Before (monomial_at d i) (monomial_at d j)
monomials_order zero l s = unfold monomial_count in absurd (omega arith)
monomials_order (suc d) {i} {j} l s =
    ⊎_elim
    (λ v. rw (monomial_at-first d i (omega arith), v.1) (inr (omega arith, omega arith)))
    (λ v.
    ⊎_elim
    (λ u. rw (u.1, v.2) (inl (omega (arith, monomials-degree d v.0))))
    (λ u. rw (u.2, v.2) (monomials_order d (omega arith) (omega (arith, monomial_count-suc d))))
    (monomials-split d i))
    (monomials-split d j)

pub monomials_last : (d : ℕ) → monomial_at d (monomial_count d - 1) ≡ record { x = 0; y = 0 }
monomials_last zero = at_zero _
monomials_last (suc d) =
    let e : monomial_count (suc d) - 1 ≡ d + 2 + (monomial_count d - 1) = omega (arith, monomial_count-suc d, monomial_count_pos d) in
    rw e (monomial_at_rest d (monomial_count d - 1) ∙ monomials_last d)

pub monomials-tail : (d e : ℕ) → drop (monomial_count (d + e) - monomial_count d) (monomials (d + e)) ≡ monomials d
unfolding monomials
monomials-tail d zero = rw (add-zero d, sub_self (monomial_count d))
monomials-tail d (suc e) =
    let at : monomial_count (suc (d + e)) - monomial_count d ≡ length (of_degree (suc (d + e))) + (monomial_count (d + e) - monomial_count d) = omega (arith, length-of_degree (d + e), monomial_count-suc (d + e), monomial_count_mono d e) in
    rw (add-suc d e, at) (drop-append-add (of_degree (suc (d + e))) (monomials (d + e)) _ ∙ monomials-tail d e)

monomial_path : (a b : Monomial) → a.x ≡ b.x → a.y ≡ b.y → a ≡ b
monomial_path a b p q = λ i. record { x = p i; y = q i }

-- every monomial of the degree stands at a place
pub monomials-place : (d : ℕ) (m : Monomial) → total_degree m ≤ d → (i : ℕ) × (i < monomial_count d) × (monomial_at d i ≡ m)
monomials-place zero m l = (0, monomial_count_pos 0, at_zero 0 ∙ monomial_path _ m (omega arith) (omega arith))
monomials-place (suc d) m l =
    elim (dec_le (total_degree m) d) [
      | yes s ↦ let (i, h, e) = monomials-place d m s in
          (d + 2 + i, omega (arith, monomial_count-suc d), monomial_at_rest d i ∙ e)
      | no s ↦ (m.y, omega (arith, monomial_count-suc d), monomial_at-first d m.y (omega arith) ∙ monomial_path _ m (omega arith) refl)
    ]

before_itself : (m : Monomial) → Before m m → ⊥
before_itself m (inl l) = lt_irrefl (total_degree m) l
before_itself m (inr l) = lt_irrefl m.x l.1

-- and at that place alone
pub monomials_apart : (d : ℕ) {i j : ℕ} → i < monomial_count d → j < monomial_count d → monomial_at d i ≡ monomial_at d j → i ≡ j
monomials_apart d {i} {j} l s e =
    elim (dec_lt i j) [
      | yes h ↦ absurd (before_itself (monomial_at d j) (rw e at (monomials_order d h s)))
      | no h ↦ elim (dec_lt j i) [
        | yes g ↦ absurd (before_itself (monomial_at d j) (rw e at (monomials_order d g l)))
        | no g ↦ omega arith
      ]
    ]

pub same_monomial_times : (a b : Monomial) → same_monomial a b (times a b) ≡ 1
unfolding same_monomial
same_monomial_times a b = rw (eq-eqb (a.x + b.x) (a.x + b.x) refl, eq-eqb (a.y + b.y) (a.y + b.y) refl)

pub same_monomial-other : (a b c : Monomial) → (times a b ≡ c → ⊥) → same_monomial a b c ≡ 0
unfolding same_monomial
same_monomial-other a b c h =
    elim (ℕ_discrete (a.x + b.x) c.x) [
      | yes e ↦ rw (eq-eqb (a.x + b.x) c.x e, ne_eqb (a.y + b.y) c.y (λ g. h (monomial_path (times a b) c e g)))
      | no e ↦ rw (ne_eqb (a.x + b.x) c.x e)
    ]

-- a sum over the list picks the product of two monomials out
pub monomials_once : (d : ℕ) (f : Monomial → ℕ) (a b : Monomial) → total_degree (times a b) ≤ d
    → sum (monomial_count d) (λ i. f (monomial_at d i) * same_monomial a b (monomial_at d i)) ≡ f (times a b)
monomials_once d f a b l =
    let (i, s, e) = monomials-place d (times a b) l in
    sum-single (monomial_count d) s
    (λ k u other. rw (same_monomial-other a b (monomial_at d k) (λ g. other (monomials_apart d u s (sym g ∙ sym e)))) (mul-zero (f (monomial_at d k))))
    ∙ rw (e, same_monomial_times a b) (mul-one (f (times a b)))

-- a sum over the list of what depends on the total degree alone: there are j + 1 monomials of total degree j
pub monomials_by_degree : (d : ℕ) (g : ℕ → ℕ) → sum (monomial_count d) (λ i. g (total_degree (monomial_at d i))) ≡ sum (suc d) (λ j. (j + 1) * g j)
unfolding sum
monomials_by_degree zero g = unfold monomial_count in rw (at_zero 0) (omega arith)
monomials_by_degree (suc d) g =
    rw (monomial_count-suc d) (sum-append (d + 2) (monomial_count d) (λ i. at (monomial_at (suc d) i)) ∙ omega (arith, new, old, monomials_by_degree d g))
  where
    at : Monomial → ℕ
    at m = g (total_degree m)

    new : sum (d + 2) (λ i. at (monomial_at (suc d) i)) ≡ (d + 2) * g (suc d)
    new = sum_cong (d + 2) (λ i l. ap g (rw (monomial_at-first d i l) (omega arith))) ∙ sum_const (d + 2) (g (suc d))

    old : sum (monomial_count d) (λ i. at (monomial_at (suc d) (d + 2 + i))) ≡ sum (monomial_count d) (λ i. at (monomial_at d i))
    old = sum_cong (monomial_count d) (λ i l. ap at (monomial_at_rest d i))

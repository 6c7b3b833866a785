-- The laws of the product of two polynomials with no t^n = 1: it is linear in each factor, so that factors cut in halves cut it in four.
--
--   upper            the part of an element from the place h on
--   raised           the product of two elements of h coefficients, with s more places below it
--
-- Assumes nothing.
use Prim.Native.Nat.{ℕ, ◌+◌, ◌-◌, ◌*◌, ◌/◌, ◌%◌, ◌≤◌, ◌<◌}
use native.Mathlib.Nat.{div-add-mod, mod-lt, add-mul-mod_self_left, add_assoc, add_comm, add-zero, zero-add, add-mul, mul-zero, mul-add}
use native.Mathlib.Omega.{arith}
use native.Mathlib.Decide.{ℕ_discrete}
use mathlib.Core.Path.{◌≡◌, refl, sym, ◌∙◌, ap, ap₂}
use Rattle.definitions.specs.Sequences.{same_number}
use Rattle.definitions.specs.Ring.{Element, add}
use Rattle.definitions.proofs.Sums.{same_number_self, same_number-other, sum_cong, sum-add, sum-zero, sum-append}
use Rattle.definitions.proofs.Congruence.{Cong, cong_refl, cong_trans, cong_of_eq, cong_mod, cong_add, cong_mul, cong_sum}
use Rattle.definitions.proofs.Ring.{pair, pair_inner, pair_comm}
use Rattle.ring.specs.Linear.{linear}

-- what a product depends on

pub linear_cong : (m : ℕ) {a b c d : Element} → ((i : ℕ) → i < m → a i ≡ b i) → ((i : ℕ) → i < m → c i ≡ d i) → (k : ℕ) → linear m a c k ≡ linear m b d k
unfolding linear
linear_cong m h g k = sum_cong m (λ i l. ap₂ ◌*◌ (h i l) (sum_cong m (λ j s. ap (λ (x : ℕ). x * same_number (i + j) k) (g j s))))

pub linear_cong_modulo : (m : ℕ) {q : ℕ} {a b c d : Element} → ((i : ℕ) → i < m → Cong q (a i) (b i)) → ((i : ℕ) → i < m → Cong q (c i) (d i)) → (k : ℕ)
    → Cong q (linear m a c k) (linear m b d k)
unfolding linear
linear_cong_modulo m h g k = cong_sum m (λ i l. cong_mul (h i l) (cong_sum m (λ j s. cong_mul (g j s) cong_refl)))

linear_pair : (m : ℕ) (a b : Element) (k : ℕ) → linear m a b k ≡ pair m a (λ i. pair m b (λ j. same_number (i + j) k))
unfolding linear pair
linear_pair m a b k = refl

pub linear-comm : (m : ℕ) (a b : Element) (k : ℕ) → linear m a b k ≡ linear m b a k
linear-comm m a b k =
    linear_pair m a b k
    ∙ pair_comm m a b (λ i j. same_number (i + j) k)
    ∙ pair_inner m b (λ j l. pair_inner m a (λ i s. ap (λ (x : ℕ). same_number x k) (add_comm i j)))
    ∙ sym (linear_pair m b a k)

-- the product is linear in each factor

pub linear-add_left : (m : ℕ) (a b c : Element) (k : ℕ) → linear m (add a b) c k ≡ linear m a c k + linear m b c k
unfolding linear add
linear-add_left m a b c k = sum_cong m (λ i l. add-mul (a i) (b i) _) ∙ sum-add m _ _

pub linear-add : (m : ℕ) (a b c : Element) (k : ℕ) → linear m a (add b c) k ≡ linear m a b k + linear m a c k
linear-add m a b c k = linear-comm m a (add b c) k ∙ linear-add_left m b c a k ∙ ap₂ ◌+◌ (linear-comm m b a k) (linear-comm m c a k)

-- the product of the halves' sums
pub linear-add-both : (m : ℕ) (a b c d : Element) (k : ℕ) → linear m (add a b) (add c d) k ≡ linear m a c k + (linear m a d k + linear m b c k) + linear m b d k
linear-add-both m a b c d k =
    linear-add_left m a b (add c d) k ∙ omega (arith, linear-add m a c d k, linear-add m b c d k)

-- halves
abbrev pub upper : ℕ → Element → Element
upper h a k = a (h + k)

abbrev raised : ℕ → ℕ → Element → Element → Element
raised s h a b k = pair h a (λ i. pair h b (λ j. same_number (s + i + j) k))

pair_zero : (m : ℕ) (a : Element) {φ : ℕ → ℕ} → ((i : ℕ) → i < m → φ i ≡ 0) → pair m a φ ≡ 0
unfolding pair
pair_zero m a h = sum-zero m (λ i l. rw (h i l) (mul-zero (a i)))

pair_add : (m : ℕ) (a : Element) (φ ψ : ℕ → ℕ) → pair m a (λ i. φ i + ψ i) ≡ pair m a φ + pair m a ψ
unfolding pair
pair_add m a φ ψ = sum_cong m (λ i l. mul-add (a i) (φ i) (ψ i)) ∙ sum-add m (λ i. a i * φ i) (λ i. a i * ψ i)

pair_append : (h m : ℕ) (a : Element) (φ : ℕ → ℕ) → pair (h + m) a φ ≡ pair h a φ + pair m (upper h a) (λ i. φ (h + i))
unfolding pair
pair_append h m a φ = sum-append h m (λ i. a i * φ i)

raised_at : (s h : ℕ) (a b : Element) (k : ℕ) → raised s h a b (s + k) ≡ linear h a b k
raised_at s h a b k = pair_inner h a (λ i _. pair_inner h b (λ j _. same i j)) ∙ sym (linear_pair h a b k)
  where
    same : (i j : ℕ) → same_number (s + i + j) (s + k) ≡ same_number (i + j) k
    same i j =
        elim (ℕ_discrete (i + j) k) [
          | yes e ↦ rw (add_assoc s i j, e) (same_number_self (s + k) ∙ sym (same_number_self k))
          | no f ↦ same_number-other (λ (e : s + i + j ≡ s + k). f (omega arith)) ∙ sym (same_number-other f)
        ]

raised_below : (s h : ℕ) (a b : Element) {k : ℕ} → k < s → raised s h a b k ≡ 0
raised_below s h a b {k} l = pair_zero h a (λ i _. pair_zero h b (λ j _. same_number-other (λ (e : s + i + j ≡ k). omega arith)))

pub linear_outside : (m : ℕ) (a b : Element) {k : ℕ} → m + m ≤ k → linear m a b k ≡ 0
linear_outside m a b {k} out = linear_pair m a b k ∙ pair_zero m a (λ i l. pair_zero m b (λ j s. same_number-other (λ (e : i + j ≡ k). omega arith)))

-- one half times both of the other's
raised_append : (s h : ℕ) (a b : Element) (k : ℕ)
    → pair h a (λ i. pair (h + h) b (λ j. same_number (s + i + j) k)) ≡ raised s h a b k + raised (s + h) h a (upper h b) k
raised_append s h a b k =
    pair_inner h a (λ i _. pair_append h h b (λ j. same_number (s + i + j) k))
    ∙ pair_add h a (λ i. pair h b (λ j. same_number (s + i + j) k)) (λ i. pair h (upper h b) (λ j. same_number (s + i + (h + j)) k))
    ∙ ap (λ (x : ℕ). raised s h a b k + x) (pair_inner h a (λ i _. pair_inner h (upper h b) (λ j _. ap (λ (x : ℕ). same_number x k) (places i j))))
  where
    places : (i j : ℕ) → s + i + (h + j) ≡ s + h + i + j
    places i j = omega arith

linear-split : (h : ℕ) (a b : Element) (k : ℕ)
    → linear (h + h) a b k ≡ linear h a b k + (raised h h a (upper h b) k + raised h h (upper h a) b k) + raised (h + h) h (upper h a) (upper h b) k
linear-split h a b k =
    linear_pair (h + h) a b k
    ∙ pair_append h h a (λ i. pair (h + h) b (λ j. same_number (i + j) k))
    ∙ omega (arith, low, raised_append h h (upper h a) b k)
  where
    low : pair h a (λ i. pair (h + h) b (λ j. same_number (i + j) k)) ≡ linear h a b k + raised h h a (upper h b) k
    low = rw (linear_pair h a b k) (simp zero-add at (raised_append 0 h a b k))

-- the quarters of a product

pub linear-first : (h : ℕ) (a b : Element) {k : ℕ} → k < h → linear (h + h) a b k ≡ linear h a b k
linear-first h a b {k} l =
    linear-split h a b k
    ∙ omega (
      arith,
      raised_below h h a (upper h b) {k = k} l,
      raised_below h h (upper h a) b {k = k} l,
      raised_below (h + h) h (upper h a) (upper h b) {k = k} (omega arith),
    )

pub linear-second : (h : ℕ) (a b : Element) {k : ℕ} → k < h
    → linear (h + h) a b (h + k) ≡ linear h a b (h + k) + (linear h a (upper h b) k + linear h (upper h a) b k)
linear-second h a b {k} l =
    linear-split h a b (h + k)
    ∙ omega (arith, raised_at h h a (upper h b) k, raised_at h h (upper h a) b k, raised_below (h + h) h (upper h a) (upper h b) {k = h + k} (omega arith))

pub linear-third : (h : ℕ) (a b : Element) (k : ℕ)
    → linear (h + h) a b (h + h + k) ≡ (linear h a (upper h b) (h + k) + linear h (upper h a) b (h + k)) + linear h (upper h a) (upper h b) k
linear-third h a b k =
    linear-split h a b (h + h + k)
    ∙ omega (arith, none, first, second, raised_at (h + h) h (upper h a) (upper h b) k)
  where
    none : linear h a b (h + h + k) ≡ 0
    none = linear_outside h a b (omega arith)

    first : raised h h a (upper h b) (h + h + k) ≡ linear h a (upper h b) (h + k)
    first = rw (add_assoc h h k) (raised_at h h a (upper h b) (h + k))

    second : raised h h (upper h a) b (h + h + k) ≡ linear h (upper h a) b (h + k)
    second = rw (add_assoc h h k) (raised_at h h (upper h a) b (h + k))

pub linear_fourth : (h : ℕ) (a b : Element) (k : ℕ) → linear (h + h) a b (h + h + (h + k)) ≡ linear h (upper h a) (upper h b) (h + k)
linear_fourth h a b k =
    linear-third h a b (h + k)
    ∙ omega (arith, linear_outside h a (upper h b) {k = h + (h + k)} (omega arith), linear_outside h (upper h a) b {k = h + (h + k)} (omega arith))

-- ---- Karatsuba's middle, modulo q: the product of the halves' sums less the outer two

-- x less x
cong_taken : (q x : ℕ) → 0 < q → Cong q (x + (q - x % q)) 0
cong_taken q x pos =
    let whole : x + (q - x % q) ≡ 0 + q * (x / q + 1) = omega (arith, div-add-mod x q, mod-lt x pos) in
    record { same = rw whole (add-mul-mod_self_left 0 q (x / q + 1)) }

-- z + m + x less x and z
cong_middle : {q s m : ℕ} (x z : ℕ) → 0 < q → Cong q s (z + m + x) → Cong q ((s + (q - x % q)) % q + (q - z % q)) m
cong_middle {q} {s} {m} x z pos h =
    let order : z + m + x + (q - x % q) + (q - z % q) ≡ m + ((x + (q - x % q)) + (z + (q - z % q))) = omega arith in
    cong_trans (cong_add (cong_trans (cong_mod q (s + (q - x % q))) (cong_add h cong_refl)) cong_refl)
    (cong_trans (cong_of_eq order)
    (cong_trans (cong_add (cong_refl {x = m}) (cong_add (cong_taken q x pos) (cong_taken q z pos))) (cong_of_eq (add-zero m))))

pub linear-middle : (h : ℕ) {q : ℕ} (a b : Element) {c d : Element} → 0 < q → ((i : ℕ) → i < h → c i ≡ (upper h a i + a i) % q)
    → ((i : ℕ) → i < h → d i ≡ (upper h b i + b i) % q) → (k : ℕ)
    → Cong q ((linear h c d k % q + (q - linear h a b k % q)) % q + (q - linear h (upper h a) (upper h b) k % q))
    (linear h a (upper h b) k + linear h (upper h a) b k)
linear-middle h {q} a b {c} {d} pos f g k =
    cong_middle (linear h a b k) (linear h (upper h a) (upper h b) k) pos
    (cong_trans (cong_mod q (linear h c d k)) (cong_trans sums (cong_of_eq (linear-add-both h (upper h a) a (upper h b) b k ∙ omega arith))))
  where
    sums : Cong q (linear h c d k) (linear h (add (upper h a) a) (add (upper h b) b) k)
    sums = unfold add in linear_cong_modulo h (λ i l. rw (f i l) (cong_mod q (upper h a i + a i))) (λ i l. rw (g i l) (cong_mod q (upper h b i + b i))) k

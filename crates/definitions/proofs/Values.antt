-- The value of a polynomial in x and y at (u_x, u_y): it keeps sums, multiples and products, and a constant's value is itself.
-- Assumes nothing.
use Prim.Native.Nat.{ℕ, zero, suc, ◌+◌, ◌-◌, ◌*◌, ◌<◌}
use native.Mathlib.Nat.{zero-add, mul_comm}
use native.Mathlib.Omega.{arith}
use mathlib.Core.Path.{◌≡◌, refl, sym, ◌∙◌, ap}
use borrow.Author.Tests.{eq-eqb, ne_eqb}
use Rattle.definitions.specs.Sequences.{sum}
use Rattle.definitions.specs.Parameters.{monomial_count}
use Rattle.definitions.specs.Ring.{Element, scale, conv, one, power}
use Rattle.definitions.specs.Monomials.{Monomial, Polynomial, monomial_at, constant_term, sum_of, same_monomial, product_of, evaluated, value_over, value}
use Rattle.definitions.proofs.Sums.{sum_cong, sum-add, sum-scale, sum-zero, sum_comm}
use Rattle.definitions.proofs.Congruence.{Cong, cong_refl, cong_sum}
use Rattle.definitions.proofs.Ring.{conv_interchange, conv-add_left, conv-scale_left, conv-sum_left, conv-sum, conv_cong, conv_cong_modulo, conv-zero_left, conv-one, conv-one_right, power-add}
use Rattle.definitions.proofs.Monomials.{times, monomial_count_pos, monomials-degree, monomials_last, monomials_once}

pub value-add : (n d : ℕ) (f g : Polynomial) (ux uy : Element) (k : ℕ) → value n d (sum_of f g) ux uy k ≡ value n d f ux uy k + value n d g ux uy k
unfolding value value_over sum_of
value-add n d f g ux uy k =
    sum_cong (monomial_count d) (λ i l. conv-add_left n (f i) (g i) (evaluated n (monomial_at d i) ux uy) k)
    ∙ sum-add (monomial_count d) _ _

pub value-scale : (n d c : ℕ) (f : Polynomial) (ux uy : Element) (k : ℕ) → value n d (λ i. scale c (f i)) ux uy k ≡ c * value n d f ux uy k
unfolding value value_over
value-scale n d c f ux uy k =
    sum_cong (monomial_count d) (λ i l. conv-scale_left n c (f i) (evaluated n (monomial_at d i) ux uy) k)
    ∙ sum-scale (monomial_count d) c _

pub value_over-suc : (terms n d : ℕ) (f : Polynomial) (ux uy : Element) (k : ℕ)
    → value_over (suc terms) n d f ux uy k ≡ value_over terms n d f ux uy k + conv n (f terms) (evaluated n (monomial_at d terms) ux uy) k
unfolding value_over sum
value_over-suc terms n d f ux uy k = refl

pub evaluated-one : (n : ℕ) (ux uy : Element) {k : ℕ} → k < n → evaluated n (record { x = 0; y = 0 }) ux uy k ≡ one k
unfolding evaluated power
evaluated-one n ux uy l = conv-one n one l

last_term : (n d : ℕ) (a ux uy : Element) {k : ℕ} → k < n → conv n a (evaluated n (monomial_at d (monomial_count d - 1)) ux uy) k ≡ a k
last_term n d a ux uy {k} l = conv_cong n (λ i s. refl) (λ i s. rw (monomials_last d) (evaluated-one n ux uy s)) k ∙ conv-one_right n a l

-- a value is its constant, and the terms before it
pub value-split : (n d : ℕ) (f : Polynomial) (ux uy : Element) {k : ℕ} → k < n
    → value n d f ux uy k ≡ value_over (monomial_count d - 1) n d f ux uy k + f (monomial_count d - 1) k
unfolding value
value-split n d f ux uy {k} l =
    let last : ℕ = monomial_count d - 1 in
    let e : monomial_count d ≡ suc last = omega (arith, monomial_count_pos d) in
    ap (λ (terms : ℕ). value_over terms n d f ux uy k) e
    ∙ value_over-suc last n d f ux uy k
    ∙ ap (λ (z : ℕ). value_over last n d f ux uy k + z) (last_term n d (f last) ux uy l)

pub value_over_cong : (terms n d : ℕ) {f g : Polynomial} (ux uy : Element) → ((i : ℕ) → i < terms → (k : ℕ) → k < n → f i k ≡ g i k)
    → (k : ℕ) → value_over terms n d f ux uy k ≡ value_over terms n d g ux uy k
unfolding value_over
value_over_cong terms n d ux uy h k = sum_cong terms (λ i l. conv_cong n (h i l) (λ j s. refl) k)

pub value_cong : (n d : ℕ) {f g : Polynomial} (ux uy : Element) → ((i : ℕ) → i < monomial_count d → (k : ℕ) → k < n → f i k ≡ g i k)
    → (k : ℕ) → value n d f ux uy k ≡ value n d g ux uy k
unfolding value
value_cong n d ux uy h k = value_over_cong (monomial_count d) n d ux uy h k

-- the value goes by the secret's coefficients below n alone
power_cong : (n : ℕ) {a b : Element} → ((i : ℕ) → i < n → a i ≡ b i) → (i k : ℕ) → power n a i k ≡ power n b i k
unfolding power
power_cong n h zero k = refl
power_cong n h (suc i) k = conv_cong n h (λ j l. power_cong n h i j) k

pub value_cong_secret : (n d : ℕ) (f : Polynomial) {ux uy vx vy : Element} → ((i : ℕ) → i < n → ux i ≡ vx i) → ((i : ℕ) → i < n → uy i ≡ vy i)
    → (k : ℕ) → value n d f ux uy k ≡ value n d f vx vy k
unfolding value value_over evaluated
value_cong_secret n d f hx hy k =
    sum_cong (monomial_count d)
    (λ i l. conv_cong n (λ j s. refl)
    (λ j s. conv_cong n (λ m u. power_cong n hx (monomial_at d i).x m) (λ m u. power_cong n hy (monomial_at d i).y m) j) k)

pub value_cong_modulo : (n d : ℕ) {q : ℕ} {f g : Polynomial} (ux uy : Element) → ((i : ℕ) → i < monomial_count d → (k : ℕ) → k < n → Cong q (f i k) (g i k))
    → (k : ℕ) → Cong q (value n d f ux uy k) (value n d g ux uy k)
unfolding value value_over
value_cong_modulo n d ux uy h k = cong_sum (monomial_count d) (λ i l. conv_cong_modulo n (h i l) (λ j s. cong_refl) k)

pub value-constant_term : (n d : ℕ) (m ux uy : Element) {k : ℕ} → k < n → value n d (constant_term d m) ux uy k ≡ m k
value-constant_term n d m ux uy {k} l =
    value-split n d (constant_term d m) ux uy l ∙ rw (before, at) (zero-add (m k))
  where
    before : value_over (monomial_count d - 1) n d (constant_term d m) ux uy k ≡ 0
    before = unfold value_over constant_term in
        sum-zero (monomial_count d - 1) (λ i s. conv-zero_left n _ (λ j u. rw (ne_eqb (suc i) (monomial_count d) (λ e. omega arith))) k)

    at : constant_term d m (monomial_count d - 1) k ≡ m k
    at = unfold constant_term in rw (eq-eqb (suc (monomial_count d - 1)) (monomial_count d) (omega (arith, monomial_count_pos d)))

-- a product of monomials at (u_x, u_y) is the product of their values
pub evaluated_times : (n : ℕ) (a b : Monomial) (ux uy : Element) {k : ℕ} → k < n → evaluated n (times a b) ux uy k ≡ conv n (evaluated n a ux uy) (evaluated n b ux uy) k
unfolding evaluated
evaluated_times n a b ux uy {k} l =
    conv_cong n (λ i s. power-add n ux a.x b.x s) (λ i s. power-add n uy a.y b.y s) k
    ∙ conv_interchange n (power n ux a.x) (power n ux b.x) (power n uy a.y) (power n uy b.y) k

weighted : (n : ℕ) (a b : Element) (c k : ℕ) → conv n (λ h. a h * c) b k ≡ conv n a b k * c
weighted n a b c k = conv_cong n (λ h s. mul_comm (a h) c) (λ h s. refl) k ∙ unfold scale in conv-scale_left n c a b k ∙ mul_comm c (conv n a b k)

module _ (n d e : ℕ) (f g : Polynomial) (ux uy : Element) (k : ℕ) where
  -- the product of one term of each polynomial, at a monomial
  abbrev term : ℕ → ℕ → Monomial → ℕ
  term i j m = conv n (conv n (f i) (g j)) (evaluated n m ux uy) k

  abbrev same : ℕ → ℕ → ℕ → ℕ
  same i j m = same_monomial (monomial_at d i) (monomial_at e j) (monomial_at (d + e) m)

  at_place : (m : ℕ) → conv n (product_of n d e f g m) (evaluated n (monomial_at (d + e) m) ux uy) k
      ≡ sum (monomial_count d) (λ i. sum (monomial_count e) (λ j. term i j (monomial_at (d + e) m) * same i j m))
  unfolding product_of
  at_place m =
      let u : Element = evaluated n (monomial_at (d + e) m) ux uy in
      conv-sum_left n (monomial_count d) (λ i h. sum (monomial_count e) (λ j. conv n (f i) (g j) h * same i j m)) u k
      ∙ sum_cong (monomial_count d)
      (λ i l. conv-sum_left n (monomial_count e) (λ j h. conv n (f i) (g j) h * same i j m) u k
      ∙ sum_cong (monomial_count e) (λ j s. weighted n (conv n (f i) (g j)) u (same i j m) k))

  left : value n (d + e) (product_of n d e f g) ux uy k
      ≡ sum (monomial_count d) (λ i. sum (monomial_count e) (λ j. term i j (times (monomial_at d i) (monomial_at e j))))
  unfolding value value_over
  left =
      sum_cong (monomial_count (d + e)) (λ m l. at_place m)
      ∙ sum_comm (monomial_count (d + e)) (monomial_count d) (λ m i. sum (monomial_count e) (λ j. term i j (monomial_at (d + e) m) * same i j m))
      ∙ sum_cong (monomial_count d)
      (λ i l. sum_comm (monomial_count (d + e)) (monomial_count e) (λ m j. term i j (monomial_at (d + e) m) * same i j m)
      ∙ sum_cong (monomial_count e) (λ j s. monomials_once (d + e) (term i j) (monomial_at d i) (monomial_at e j) (omega (arith, monomials-degree d i, monomials-degree e j))))

  right : conv n (value n d f ux uy) (value n e g ux uy) k
      ≡ sum (monomial_count d) (λ i. sum (monomial_count e) (λ j. term i j (times (monomial_at d i) (monomial_at e j))))
  unfolding value value_over
  right =
      let u : ℕ → Element = λ i. evaluated n (monomial_at d i) ux uy in
      let v : ℕ → Element = λ j. evaluated n (monomial_at e j) ux uy in
      conv-sum_left n (monomial_count d) (λ i. conv n (f i) (u i)) _ k
      ∙ sum_cong (monomial_count d)
      (λ i l. conv-sum n (monomial_count e) (conv n (f i) (u i)) (λ j. conv n (g j) (v j)) k
      ∙ sum_cong (monomial_count e)
      (λ j s. conv_interchange n (f i) (u i) (g j) (v j) k
      ∙ conv_cong n (λ h t. refl) (λ h t. sym (evaluated_times n (monomial_at d i) (monomial_at e j) ux uy t)) k))

  pub value-mul : value n (d + e) (product_of n d e f g) ux uy k ≡ conv n (value n d f ux uy) (value n e g ux uy) k
  value-mul = left ∙ sym right

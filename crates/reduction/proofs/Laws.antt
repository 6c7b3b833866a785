-- A product of two words from the products of their parts, and Barrett's quotient: over any radix, since 2^64 is too long for omega.
-- Assumes nothing.
use Prim.Native.Nat.{ℕ, ◌+◌, ◌-◌, ◌*◌, ◌/◌, ◌%◌, ◌≤◌, ◌<◌}
use native.Mathlib.Nat.{le_of_lt, mod-lt, div-add-mod, mul-div-le, lt-mul-div-succ}
use native.Mathlib.Nat.{mul-le-mul_left, mul-le-mul_right, mul-lt-mul_of_pos_right, le_of_mul-le-mul_right, lt_of_mul-lt-mul_right}
use native.Mathlib.Omega.{arith}
use mathlib.Core.Path.{◌≡◌, sym, ◌∙◌, ap}
use lib.Arith.{digits_div, digits_lt, digits_mod}

-- ---- the high half of a product

-- from the products of the parts, with the carries: x out of the low product, m1 and o1 out of the two middle ones
parts_div : (r a1 a0 b1 b0 x l m1 m0 o1 o0 : ℕ) → a0 * b0 ≡ r * x + l → a1 * b0 + x ≡ r * m1 + m0 → a0 * b1 + m0 ≡ r * o1 + o0 → l < r → o0 < r
    → (r * a1 + a0) * (r * b1 + b0) / (r * r) ≡ a1 * b1 + m1 + o1
parts_div r a1 a0 b1 b0 x l m1 m0 o1 o0 low middle other hl ho =
    let whole : (r * a1 + a0) * (r * b1 + b0) ≡ (a1 * b1 + m1 + o1) * (r * r) + (o0 * r + l) =
    omega (arith, ap (λ (z : ℕ). r * z) middle, ap (λ (z : ℕ). r * z) other)
    in
    rw whole (digits_div (a1 * b1 + m1 + o1) (digits_lt ho hl))

pub product_high : (r a b : ℕ) → 0 < r → a * b / (r * r) ≡ a / r * (b / r) + (a / r * (b % r) + a % r * (b % r) / r) / r +
    (a % r * (b / r) + (a / r * (b % r) + a % r * (b % r) / r) % r) / r
product_high r a b h =
    let low : ℕ = a % r * (b % r) in
    let middle : ℕ = a / r * (b % r) + low / r in
    let other : ℕ = a % r * (b / r) + middle % r in
    let e : a * b ≡ (r * (a / r) + a % r) * (r * (b / r) + b % r) = rw (div-add-mod a r, div-add-mod b r) in
    rw e (parts_div r (a / r) (a % r) (b / r) (b % r) (low / r) (low % r) (middle / r) (middle % r) (other / r) (other % r) (sym (div-add-mod low r))
    (sym (div-add-mod middle r)) (sym (div-add-mod other r)) (mod-lt low h) (mod-lt other h))

-- ---- the remainder: v is q's reciprocal, h the quotient by it, and r the radix, of which p is one less

module _ (r p q s v h : ℕ) (top : p + 1 ≡ r) (pos : 0 < q) (inverse : v ≡ p / q) (quotient : h ≡ s * v / r) where
  radix_pos : 0 < r
  radix_pos = omega arith

  -- the quotient is never too large
  pub quotient_le : h * q ≤ s
  quotient_le =
      let lower : r * h ≤ s * v = rw quotient (mul-div-le (s * v) r) in
      let under : q * v ≤ p = rw inverse (mul-div-le p q) in
      let within : q * v ≤ r = omega arith in
      le_of_mul-le-mul_right (omega (arith, mul-le-mul_left q lower, mul-le-mul_left s within)) radix_pos

  -- and at most one too small
  pub quotient_near : s < r → s < h * q + q + q
  quotient_near fits =
      let upper : s * v < r * (h + 1) = rw quotient (lt-mul-div-succ (s * v) radix_pos) in
      let above : p < q * (v + 1) = rw inverse (lt-mul-div-succ p pos) in
      let over : r ≤ q * (v + 1) = omega arith in
      lt_of_mul-lt-mul_right r
      (omega (arith, mul-lt-mul_of_pos_right upper pos, mul-le-mul_left s over, mul-le-mul_right q (le_of_lt fits)))

-- what is left over such a quotient
pub rest_small : (h : ℕ) {q s : ℕ} → s < h * q + q + q → q < 2147483648 → s - h * q < 4294967296
rest_small h near l = omega arith

-- is the remainder, or q more
pub rest_below : (h : ℕ) {q s : ℕ} → h * q ≤ s → s - h * q < q → s - h * q ≡ s % q
rest_below h {q} {s} low l =
    let whole : s ≡ h * q + (s - h * q) = omega arith in
    sym (ap (λ (x : ℕ). x % q) whole ∙ digits_mod h l)

pub rest_above : (h : ℕ) {q s : ℕ} → h * q ≤ s → s < h * q + q + q → q ≤ s - h * q → s - h * q - q ≡ s % q
rest_above h {q} {s} low near g =
    let whole : s ≡ (h + 1) * q + (s - h * q - q) = omega arith in
    sym (ap (λ (x : ℕ). x % q) whole ∙ digits_mod (h + 1) (omega arith))

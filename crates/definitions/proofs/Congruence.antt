-- When two numbers are congruent modulo q, and that sums and products keep it: R_q may be computed over the whole numbers.
-- Assumes nothing.
use Prim.Native.Nat.{ℕ, zero, suc, ◌+◌, ◌*◌, ◌/◌, ◌%◌, ◌<◌}
use native.Mathlib.Nat.{add-mod, mod-mod, mod-eq_of_lt, div-add-mod, add-mul-mod_self_left, le_step, lt-suc_self, mul_comm}
use native.Mathlib.Omega.{arith}
use mathlib.Core.Path.{◌≡◌, refl, sym, ◌∙◌, ap}
use Rattle.definitions.specs.Sequences.{sum}

pub record Cong (q x y : ℕ) : Type 0 where
  pub same : x % q ≡ y % q

pub cong_refl : {q x : ℕ} → Cong q x x
cong_refl = record { same = refl }

pub cong_sym : {q x y : ℕ} → Cong q x y → Cong q y x
cong_sym h = record { same = sym h.same }

pub cong_trans : {q x y z : ℕ} → Cong q x y → Cong q y z → Cong q x z
cong_trans h k = record { same = h.same ∙ k.same }

pub cong_of_eq : {q x y : ℕ} → x ≡ y → Cong q x y
cong_of_eq {q} e = record { same = ap (λ (z : ℕ). z % q) e }

pub cong_mod : (q x : ℕ) → Cong q (x % q) x
cong_mod q x = record { same = mod-mod x q }

pub cong_add : {q x y z w : ℕ} → Cong q x y → Cong q z w → Cong q (x + z) (y + w)
cong_add {q} {x} {y} {z} {w} h k = record { same = rw (add-mod x z q, h.same, k.same, ← add-mod y w q) }

mod-mul : (q c x : ℕ) → c * (x % q) % q ≡ c * x % q
mod-mul q c x =
    let e : c * x ≡ c * (x % q) + q * (c * (x / q)) = omega (arith, ap (λ (z : ℕ). c * z) (div-add-mod x q)) in
    rw (e, add-mul-mod_self_left)

pub cong_scale : {q x y : ℕ} (c : ℕ) → Cong q x y → Cong q (c * x) (c * y)
cong_scale {q} {x} {y} c h = record { same = rw (← mod-mul q c x, h.same, mod-mul) }

pub cong_mul : {q x y z w : ℕ} → Cong q x y → Cong q z w → Cong q (x * z) (y * w)
cong_mul {q} {x} {y} {z} {w} h k =
    cong_trans (cong_scale x k) (rw (mul_comm x w, mul_comm y w) (cong_scale w h))

pub cong_sum : {q : ℕ} (n : ℕ) {f g : ℕ → ℕ} → ((k : ℕ) → k < n → Cong q (f k) (g k)) → Cong q (sum n f) (sum n g)
unfolding sum
cong_sum zero h = cong_refl
cong_sum (suc n) h = cong_add (cong_sum n (λ k l. h k (le_step l))) (h n (lt-suc_self n))

pub cong_eq : {q x y : ℕ} → Cong q x y → x < q → y < q → x ≡ y
cong_eq h l m = sym (mod-eq_of_lt l) ∙ h.same ∙ mod-eq_of_lt m

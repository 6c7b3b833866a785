-- Bounds of products and of their sums: what makes each step of a product fit its word.
-- Assumes nothing.
use Prim.Native.Nat.{ℕ, ◌+◌, ◌*◌, ◌%◌, ◌/◌, ◌≤◌, ◌<◌}
use native.Mathlib.Nat.{mul-le-mul, le_of_lt}
use native.Mathlib.Omega.{arith}
use mathlib.Core.Path.{◌≡◌}
use Rattle.definitions.proofs.Congruence.{cong_refl, cong_mod, cong_add, cong_scale}
use Rattle.rows.specs.Rows.{Halves}

pub product_small : {a b : ℕ} → a < 2147483648 → b < 2147483648 → a * b ≤ 4611686014132420609
product_small {a} {b} h l =
    let x : a ≤ 2147483647 = omega arith in
    let y : b ≤ 2147483647 = omega arith in
    mul-le-mul x y

-- eighty products of which each is at most UNCUT fit a word
pub eighty_small : {m p : ℕ} → m ≤ 80 → p ≤ 230584300921369395 → m * p < 18446744073709551616
eighty_small h l = let s = mul-le-mul h l in omega arith

-- ---- a running sum of cut numbers: after i rows, four at a time, each half is at most what i / 4 halves can be
pub record CutSum (i total low high : ℕ) : Type 0 where
  pub whole : low + 4398046511104 * high ≡ total
  pub low-bound : 4 * low ≤ i * 4398046511104
  pub high-bound : 4 * high ≤ i * 4194304

pub cut_sum_none : CutSum 0 0 0 0
cut_sum_none = record { whole = omega arith; low-bound = omega arith; high-bound = omega arith }

pub cut_sum_more : {i total low high : ℕ} {s t : ℕ} → CutSum i total low high → s < 18446744073709551616 → t < 18446744073709551616
    → CutSum (i + 8) (total + (s + t)) (low + (s % 4398046511104 + t % 4398046511104)) (high + (s / 4398046511104 + t / 4398046511104))
cut_sum_more h l g = record { whole = omega arith; low-bound = omega arith; high-bound = omega arith }

pub cut_sum_halves : {i total low high : ℕ} → CutSum i total low high → i < 88 → Halves total low high
cut_sum_halves h l = record { whole = h.whole; low_small = omega arith; high_small = omega arith }

-- what is put together again fits a word
module _ {high fold : ℕ} (h : high < 134217728) (l : fold < 2147483648) where
  folded_le : high * fold ≤ 288230376151711744
  folded_le = mul-le-mul (le_of_lt h) (le_of_lt l)

  pub folded_small : {low : ℕ} → low < 140737488355328 → high * fold + low < 18446744073709551616
  folded_small g = omega (arith, folded_le)

pub folded_cong : (q high low : ℕ) → (high * (4398046511104 % q) + low) % q ≡ (low + 4398046511104 * high) % q
folded_cong q high low =
    let e : low + 4398046511104 * high ≡ high * 4398046511104 + low = omega arith in
    rw e (cong_add (cong_scale high (cong_mod q 4398046511104)) cong_refl).same

-- How large a value can grow. The sum of an element's coefficients is multiplicative (`sum-conv`), and a coefficient of a product is at most
-- the largest coefficient of one factor times the sum of the other's (`conv-le-sum`): the noise bound follows term by term.
-- Assumes nothing.
use Prim.Native.Nat.{ℕ, zero, suc, ◌+◌, ◌-◌, ◌*◌, ◌^◌, ◌≤◌, ◌<◌, zero-le}
use native.Mathlib.Nat.{zero-lt-suc, pow-zero, suc-add, add-suc, mul-one, mul_comm, mul_assoc, mul-le-mul, mul-le-mul_left, pow-succ', le_of_eq, le_trans}
use native.Mathlib.Numerals.{add-one}
use native.Mathlib.Omega.{arith}
use mathlib.Core.Path.{◌≡◌, sym, ◌∙◌}
use lib.Pow.{pow-add}
use Rattle.definitions.specs.Sequences.{sum}
use Rattle.definitions.specs.Parameters.{monomial_count}
use Rattle.definitions.specs.Ring.{Element, conv, one, power}
use Rattle.definitions.specs.Monomials.{Monomial, Polynomial, monomial_at, evaluated, value_over, value}
use Rattle.definitions.proofs.Sums.{sum_cong, sum-scale_right, sum-le}
use Rattle.definitions.proofs.Ring.{pair, pair_conv, pair_inner, pair_pick, conv-assoc, conv_left_comm, AtMost, sum-le-most, conv-le-sum}
use Rattle.definitions.proofs.Monomials.{total_degree, monomials_by_degree}

-- the sum of coefficients

pair_ones : (n : ℕ) (a : Element) → pair n a (λ i. 1) ≡ sum n a
unfolding pair
pair_ones n a = sum_cong n (λ i l. mul-one (a i))

pub sum-conv : (n : ℕ) (a b : Element) → sum n (conv n a b) ≡ sum n a * sum n b
sum-conv n a b =
    sym (pair_ones n (conv n a b))
    ∙ pair_conv n a b (λ i. 1)
    ∙ pair_inner n a (λ i l. pair_ones n b)
    ∙ unfold pair in sum-scale_right n (sum n b) a

pub sum-one-le : (n : ℕ) → sum n one ≤ 1
unfolding one
sum-one-le zero = unfold sum in zero-le
sum-one-le (suc n) = le_of_eq (sym (pair_ones (suc n) one) ∙ pair_pick (suc n) {x = 0} (zero-lt-suc n) (λ i. 1))

mul-pow : (a b i : ℕ) → (a * b) ^ i ≡ a ^ i * b ^ i
mul-pow a b zero = rw (pow-zero (a * b), pow-zero a, pow-zero b)
mul-pow a b (suc i) = rw (pow-succ' (a * b) i, pow-succ' a i, pow-succ' b i, mul-pow a b i) (omega arith)

suc-sub-one : (i : ℕ) → suc i - 1 ≡ i
suc-sub-one i = omega arith

module _ (n α : ℕ) where
  pub sum-power-le : (u : Element) → AtMost α n u → (i : ℕ) → sum n (power n u i) ≤ (n * α) ^ i
  unfolding power
  sum-power-le u h zero = rw (pow-zero (n * α)) (sum-one-le n)
  sum-power-le u h (suc i) = rw (sum-conv n u (power n u i), pow-succ') (mul-le-mul (sum-le-most n α u h) (sum-power-le u h i))

  -- a factor of coefficients at most α, and one whose sum is that of a degree i
  conv-le-power : (a b : Element) → AtMost α n a → (i : ℕ) → sum n b ≤ (n * α) ^ i → (k : ℕ) → conv n a b k ≤ α ^ suc i * n ^ i
  conv-le-power a b h i s k =
      let e : α ^ suc i * n ^ i ≡ α * (n * α) ^ i = rw (mul-pow n α i, pow-succ' α i) (omega arith) in
      rw e (le_trans (conv-le-sum n α a b h k) (mul-le-mul_left α s))

  pub power_le : (u : Element) → AtMost α n u → (i k : ℕ) → power n u (suc i) k ≤ α ^ suc i * n ^ i
  unfolding power
  power_le u h i k = conv-le-power u (power n u i) h i (sum-power-le u h i) k

  module _ (ux uy : Element) (hx : AtMost α n ux) (hy : AtMost α n uy) where
    pub sum-evaluated-le : (m : Monomial) → sum n (evaluated n m ux uy) ≤ (n * α) ^ total_degree m
    unfolding evaluated
    sum-evaluated-le m =
        rw (sum-conv n (power n ux m.x) (power n uy m.y), pow-add)
        (mul-le-mul (sum-power-le ux hx m.x) (sum-power-le uy hy m.y))

    pub evaluated-le : (i j : ℕ) → 0 < i + j → (k : ℕ) → evaluated n (record { x = i; y = j }) ux uy k ≤ α ^ (i + j) * n ^ (i + j - 1)
    unfolding evaluated power
    evaluated-le zero zero l k = absurd (omega arith)
    evaluated-le zero (suc j) l k =
        rw (conv_left_comm n one uy (power n uy j) k, add-suc 0 j, suc-sub-one (0 + j))
        (conv-le-power uy (conv n one (power n uy j)) hy (0 + j) (sum-evaluated-le (record { x = 0; y = j })) k)
    evaluated-le (suc i) j l k =
        rw (conv-assoc n ux (power n ux i) (power n uy j) k, suc-add i j, suc-sub-one (i + j))
        (conv-le-power ux (conv n (power n ux i) (power n uy j)) hx (i + j) (sum-evaluated-le (record { x = i; y = j })) k)

-- the value of a polynomial of small coefficients at a small point
pub noise_le : (n d l : ℕ) (e : Polynomial) (ux uy : Element) → AtMost (l - 1) n ux → AtMost (l - 1) n uy → ((i : ℕ) → i < monomial_count d → AtMost (l - 1) n (e i))
    → (k : ℕ) → value n d e ux uy k ≤ sum (suc d) (λ i. (i + 1) * n ^ i * (l - 1) ^ (i + 1))
unfolding value value_over
noise_le n d l e ux uy hx hy he k = le_trans (sum-le (monomial_count d) at_le) (le_of_eq (monomials_by_degree d most ∙ sum_cong (suc d) (λ i s. same i)))
  where
    most : ℕ → ℕ
    most i = (l - 1) ^ suc i * n ^ i

    at_le : (i : ℕ) → i < monomial_count d → conv n (e i) (evaluated n (monomial_at d i) ux uy) k ≤ most (total_degree (monomial_at d i))
    at_le i s =
        let m : Monomial = monomial_at d i in
        conv-le-power n (l - 1) (e i) (evaluated n m ux uy) (he i s) (total_degree m) (sum-evaluated-le n (l - 1) ux uy hx hy m) k

    same : (i : ℕ) → (i + 1) * most i ≡ (i + 1) * n ^ i * (l - 1) ^ (i + 1)
    same i = rw (add-one i, mul_comm ((l - 1) ^ suc i) (n ^ i), mul_assoc (suc i) (n ^ i) ((l - 1) ^ suc i))

-- Why one product does for X_i r_j + X_j r_i once the diagonal is known: the laws over plain numbers and elements.
--
--   sum-square          a sum over a square, row by row up to the diagonal
--   same_monomial-comm   a pair gives the monomial that it gives turned round
--   conv_sums           the product of two sums
--   cong_less           what was added and then taken away modulo q
--   cong_sums           sums that were reduced multiply to the same modulo q
--   cong_pair           the product of the sums, less the products of the like, is the sum of the products of the unlike
--   sum_restored        a sum modulo q, less one of its terms
-- Assumes nothing.
use Prim.Native.Nat.{ℕ, zero, suc, ◌+◌, ◌-◌, ◌*◌, ◌/◌, ◌%◌, ◌<◌}
use native.Mathlib.Nat.{add_comm, mod-lt, mod-eq_of_lt, mod-add-mod, add-mod_right, div-add-mod, add-mul-mod_self_left}
use native.Mathlib.Omega.{arith}
use mathlib.Core.Path.{◌≡◌, refl}
use Rattle.definitions.specs.Sequences.{sum}
use Rattle.definitions.specs.Ring.{Element, add, conv}
use Rattle.definitions.specs.Monomials.{Monomial, same_monomial}
use Rattle.definitions.proofs.Sums.{sum-add}
use Rattle.definitions.proofs.Congruence.{Cong, cong_refl, cong_trans, cong_of_eq, cong_mod, cong_add}
use Rattle.definitions.proofs.Ring.{conv-add, conv-add_left, conv_cong_modulo}

pub sum-square : (n : ℕ) (f : ℕ → ℕ → ℕ) → sum n (λ i. sum n (f i)) ≡ sum n (λ i. f i i + sum i (λ j. f i j + f j i))
unfolding sum
sum-square zero f = refl
sum-square (suc n) f =
    omega (arith, sum-square n f, sum-add n (λ i. sum n (f i)) (λ i. f i n), sum-add n (f n) (λ j. f j n))

pub same_monomial-comm : (a b c : Monomial) → same_monomial a b c ≡ same_monomial b a c
unfolding same_monomial
same_monomial-comm a b c = rw (add_comm a.x b.x, add_comm a.y b.y)

pub conv_sums : (n : ℕ) (a b c e : Element) (k : ℕ)
    → conv n (λ i. a i + b i) (λ i. c i + e i) k ≡ conv n a c k + conv n b e k + (conv n a e k + conv n b c k)
unfolding add
conv_sums n a b c e k = omega (arith, conv-add_left n a b (add c e) k, conv-add n a c e k, conv-add n b c e k)

pub cong_less : (q x y : ℕ) → 0 < q → Cong q (x + y + (q - y % q)) x
cong_less q x y pos =
    let e : x + y + (q - y % q) ≡ x + q * (y / q + 1) = omega (arith, div-add-mod y q, mod-lt y pos) in
    record { same = rw e (add-mul-mod_self_left x q (y / q + 1)) }

module _ (n q : ℕ) (pos : 0 < q) (a b c e : Element) where
  -- what is computed
  abbrev pub sums_less : ℕ → ℕ → ℕ
  sums_less x k = x + conv n (λ i. a i + b i) (λ i. c i + e i) k + (q - conv n a c k % q) + (q - conv n b e k % q)

  pub cong_pair : (x k : ℕ) → Cong q (sums_less x k) (x + (conv n a e k + conv n b c k))
  cong_pair x k =
      let both : ℕ = x + (conv n a e k + conv n b c k) in
      let y : ℕ = conv n a c k in
      let z : ℕ = conv n b e k in
      let sorted : sums_less x k ≡ both + z + y + (q - y % q) + (q - z % q) = rw (conv_sums n a b c e k) (omega arith) in
      cong_trans (cong_of_eq sorted) (cong_trans (cong_add (cong_less q (both + z) y pos) cong_refl) (cong_less q both z pos))

pub cong_sums : (n q : ℕ) (a b c e : Element) (x k : ℕ)
    → Cong q (x + conv n (λ i. (a i + b i) % q) (λ i. (c i + e i) % q) k) (x + conv n (λ i. a i + b i) (λ i. c i + e i) k)
cong_sums n q a b c e x k = cong_add cong_refl (conv_cong_modulo n (λ i l. cong_mod q _) (λ i l. cong_mod q _) k)

pub sum_restored : (q : ℕ) {a b : ℕ} → a < q → b < q → ((a + b) % q + (q - b)) % q ≡ a
sum_restored q {a} {b} l s =
    let e : a + b + (q - b) ≡ a + q = omega arith in
    rw (mod-add-mod, e, add-mod_right) (mod-eq_of_lt l)

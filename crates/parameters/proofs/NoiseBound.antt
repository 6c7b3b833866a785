-- The noise bound, added up term by term and stopped at 2^31: what the loop of `capped_bound` computes.
--
--   power l n k          n^k × (ℓ - 1)^(k + 1), the power in term k
--   term l n k           term k of S
--   partial l n k        the bound with only its first k terms
--   partial_suc, power-suc     one term more, and the next power
--   capped_past          once a partial bound reaches 2^31, so does B
--   Turn                 what holds at turn k of the loop;  turn_start, turn_next: where it begins, and after a turn that stays below 2^31
--   modulus_capped       test 4 sees no difference between B and the lesser of B and 2^31
--   modulus_fits-within   the limits of q where test 4 passes
--   bound_uncapped       where test 4 passes, B is the lesser
-- Assumes nothing.
use Prim.Native.Nat.{ℕ, ◌+◌, ◌-◌, ◌*◌, ◌^◌, ◌≤◌, ◌<◌, min}
use native.Mathlib.Nat.{le_refl, mul-le-mul, mul-le-mul_left, mul-le-mul_right, pow-zero, pow-suc}
use native.Mathlib.Numerals.{add-one}
use native.Mathlib.Decide.{le_ind, dec_lt}
use native.Mathlib.Omega.{arith}
use mathlib.Core.Path.{◌≡◌, refl, ap, ap₂, sym, ◌∙◌}
use mathlib.Core.Bool.{Bool, true, false, ◌&&◌}
use lib.Dec.{leb, ltb}
use borrow.Author.Tests.{lt-ltb, le-ltb, leb-true, ltb-true}
use Rattle.definitions.specs.Sequences.{sum}
use Rattle.definitions.specs.Parameters.{Parameters, degree, term_sum, bound, modulus_fits}
use Rattle.parameters.proofs.Bounds.{Within}
use Rattle.definitions.proofs.Tests.{both_true}

pub sum_mono : (f : ℕ → ℕ) {m n : ℕ} → m ≤ n → sum m f ≤ sum n f
unfolding sum
sum_mono f {m} {n} h = le_ind (λ (n : ℕ). sum m f ≤ sum n f) (le_refl (sum m f)) (λ n k e. omega arith) n h

abbrev pub power : ℕ → ℕ → ℕ → ℕ
power l n k = n ^ k * (l - 1) ^ (k + 1)

abbrev pub term : ℕ → ℕ → ℕ → ℕ
term l n k = (k + 1) * n ^ k * (l - 1) ^ (k + 1)

abbrev pub partial : ℕ → ℕ → ℕ → ℕ
partial l n k = l - 1 + l * sum k (term l n)

pub partial_suc : (l n k : ℕ) → partial l n (k + 1) ≡ partial l n k + l * ((k + 1) * power l n k)
unfolding sum
partial_suc l n k = ap (partial l n) (add-one k) ∙ omega arith

pub power-suc : (l n k : ℕ) → power l n (k + 1) ≡ power l n k * (n * (l - 1))
power-suc l n k = rw (add-one (k + 1), pow-suc (l - 1) (k + 1), add-one k, pow-suc n k) (omega arith)

pub bound_partial : (p : Parameters) → bound p ≡ partial p.l p.n (degree p + 1)
unfolding bound term_sum
bound_partial p = rw (add-one (degree p))

pub partial_le : (l n : ℕ) {j k : ℕ} → j ≤ k → partial l n j ≤ partial l n k
partial_le l n h = omega (arith, mul-le-mul_left l (sum_mono (term l n) h))

-- ---- the loop

pub record Turn (l n last total pow k : ℕ) : Type 0 where
  pub range : Within 2 16 l
  pub ring : Within 2 4096 n
  pub last_le : last ≤ 4
  pub k_le : k ≤ last + 1
  pub total_lt : total < 2147483648
  pub pow-le : pow ≤ 131941395333120
  pub total_is : total ≡ partial l n k
  pub pow-is : pow ≡ power l n k

pub turn_start : (l n last : ℕ) → Within 2 16 l → Within 2 4096 n → last ≤ 4 → Turn l n last (l - 1) (l - 1) 0
unfolding sum
turn_start l n last range ring top =
    record {
      range = range;
      ring = ring;
      last_le = top;
      k_le = omega arith;
      total_lt = omega arith;
      pow-le = omega arith;
      total_is = omega arith;
      pow-is = rw (pow-zero n, pow-suc (l - 1) 0, pow-zero (l - 1)) (omega arith);
    }

total_next : (l n last total pow k : ℕ) → Turn l n last total pow k → total + l * ((k + 1) * pow) ≡ partial l n (k + 1)
total_next l n last total pow k t =
    ap₂ (λ (x y : ℕ). x + l * ((k + 1) * y)) t.total_is t.pow-is ∙ sym (partial_suc l n k)

module _ (l n last total pow k : ℕ) (t : Turn l n last total pow k) (more : k ≤ last) where
  pub count-pow-le : (k + 1) * pow ≤ 5 * 131941395333120
  count-pow-le =
      let five : k + 1 ≤ 5 = omega arith in
      mul-le-mul five t.pow-le

  pub added-le : l * ((k + 1) * pow) ≤ 16 * (5 * 131941395333120)
  added-le = mul-le-mul t.range.most count-pow-le

  pub factor_le : n * (l - 1) ≤ 4096 * 15
  factor_le =
      let fifteen : l - 1 ≤ 15 = omega arith in
      mul-le-mul t.ring.most fifteen

  pow-added : pow ≤ l * ((k + 1) * pow)
  pow-added =
      let one : 1 ≤ k + 1 = omega arith in
      let some : 1 ≤ l = omega arith in
      omega (arith, mul-le-mul_right pow one, mul-le-mul_right ((k + 1) * pow) some)

  module _ (below : total + l * ((k + 1) * pow) < 2147483648) where
    pub next_pow_le : pow * (n * (l - 1)) ≤ 2147483648 * (4096 * 15)
    next_pow_le =
        let small : pow ≤ 2147483648 = omega (arith, pow-added) in
        mul-le-mul small factor_le

    pub turn_next : Turn l n last (total + l * ((k + 1) * pow)) (pow * (n * (l - 1))) (k + 1)
    turn_next =
        record {
          range = t.range;
          ring = t.ring;
          last_le = t.last_le;
          k_le = omega arith;
          total_lt = below;
          pow-le = next_pow_le;
          total_is = total_next l n last total pow k t;
          pow-is = ap (λ (y : ℕ). y * (n * (l - 1))) t.pow-is ∙ sym (power-suc l n k);
        }

module _ (p : Parameters) (total pow k : ℕ) (t : Turn p.l p.n (degree p) total pow k) where
  pub capped_past : k ≤ degree p → 2147483648 ≤ total + p.l * ((k + 1) * pow) → min (bound p) 2147483648 ≡ 2147483648
  capped_past more past =
      let within : k + 1 ≤ degree p + 1 = omega arith in
      omega
      (arith, total_next _ _ _ _ _ _ t, bound_partial p, partial_le p.l p.n within)

  pub capped_end : degree p < k → min (bound p) 2147483648 ≡ total
  capped_end end =
      let last : degree p + 1 ≡ k = omega arith in
      omega (arith, bound_partial p, ap (partial p.l p.n) last)

-- no q that the first half lets through is above 2^31
ltb_capped : (b q : ℕ) → (leb q 2147483647 && ltb b q) ≡ (leb q 2147483647 && ltb (min b 2147483648) q)
ltb_capped b q = go (leb q 2147483647) refl
  where
    go : (t : Bool) → leb q 2147483647 ≡ t → (t && ltb b q) ≡ (t && ltb (min b 2147483648) q)
    go false e = refl
    go true e =
        let small = leb-true q 2147483647 e in
        elim (dec_lt b q) [
          | yes h ↦ lt-ltb b q h ∙ sym (lt-ltb (min b 2147483648) q (omega arith))
          | no h ↦ le-ltb b q (omega arith) ∙ sym (le-ltb (min b 2147483648) q (omega arith))
        ]

pub modulus_capped : (p : Parameters) → modulus_fits p ≡ (leb p.q 2147483647 && ltb (min (bound p) 2147483648) p.q)
unfolding modulus_fits
modulus_capped p = ltb_capped (bound p) p.q

pub modulus_fits-within : (p : Parameters) → modulus_fits p ≡ true → (bound p < p.q) × (p.q ≤ 2147483647)
unfolding modulus_fits
modulus_fits-within p e = let both = both_true _ _ e in (ltb-true _ _ both.1, leb-true _ _ both.0)

pub bound_uncapped : (p : Parameters) → modulus_fits p ≡ true → min (bound p) 2147483648 ≡ bound p
bound_uncapped p e = omega (arith, modulus_fits-within p e)

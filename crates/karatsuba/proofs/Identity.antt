-- Karatsuba's identity: of the products of the lower halves, of the upper halves and of the sums, the third less the first two is the
-- middle of the product, which goes h places up.
--
--   Three            the three products, modulo q, for two polynomials of m = 2 h coefficients: the outer two side by side, the third at free
--
-- Assumes nothing.
use Prim.Native.Nat.{ℕ, ◌+◌, ◌-◌, ◌%◌, ◌≤◌, ◌<◌}
use native.Mathlib.Nat.{add_comm, mod-lt}
use native.Mathlib.Omega.{arith}
use native.Mathlib.Decide.{dec_lt}
use mathlib.Core.Path.{◌≡◌, sym, ◌∙◌, ap, subst}
use mathlib.Core.List.{List}
use lib.ListN.{get_or}
use Rattle.definitions.specs.Ring.{Element, InRing}
use Rattle.definitions.proofs.Congruence.{Cong, cong_trans, cong_mod, cong_add, cong_of_eq}
use Rattle.ring.specs.Work.{part}
use Rattle.ring.specs.Linear.{linear}
use Rattle.ring.proofs.Linear.{upper, linear-first, linear-second, linear-third, linear_fourth, linear-middle}
use Rattle.karatsuba.specs.Products.{Joined}

pub record Three (q m h at free : ℕ) (a b : Element) (words : List ℕ) : Type 0 where
  pub low : (k : ℕ) → k < m → part words at k ≡ linear h a b k % q
  pub high : (k : ℕ) → k < m → part words (at + m) k ≡ linear h (upper h a) (upper h b) k % q
  pub sums : (k : ℕ) → k < m → part words free k ≡ linear h (λ i. (a i + upper h a i) % q) (λ i. (b i + upper h b i) % q) k % q

-- every coefficient is a remainder
pub three_ring : {q m h at free : ℕ} {a b : Element} {words : List ℕ} → 0 < q → Three q m h at free a b words → InRing q (m + m) (part words at)
    × InRing q m (part words free)
three_ring {q} {m} {h} {at} {free} {a} {b} {words} pos p = (
  λ k l. elim (dec_lt k m) [ yes s ↦ rw (p.low k s) (mod-lt _ pos) | no s ↦ behind k (k - m) (omega arith) (omega arith) ],
  λ k l. rw (p.sums k l) (mod-lt _ pos),
)
  where
    behind : (k i : ℕ) → i < m → at + m + i ≡ at + k → part words at k < q
    behind k i l e = subst (λ (j : ℕ). get_or words j 0 < q) e (rw (p.high i l) (mod-lt _ pos))

-- ---- Karatsuba's identity: the middle, added to the outer two h places up, gives the product
module _ {q m h at free : ℕ} {a b : Element} {words words' : List ℕ} (pos : 0 < q) (half : m ≡ h + h) (room : at + (m + m) ≤ free)
    (p : Three q m h at free a b words) (joined : Joined q m h at free words words') where
  middle : (k : ℕ) → k < m → Cong q (((part words free k + (q - part words at k)) % q + (q - part words (at + m) k)) % q)
      (linear h a (upper h b) k + linear h (upper h a) b k)
  middle k l =
      rw (p.sums k l, p.high k l, p.low k l)
      (cong_trans (cong_mod q _) (linear-middle h a b pos (λ i t. ap (λ (x : ℕ). x % q) (add_comm (a i) _))
      (λ i t. ap (λ (x : ℕ). x % q) (add_comm (b i) _)) k))

  first_quarter : (k : ℕ) → k < h → part words' at k ≡ linear (h + h) a b k % q
  first_quarter k l = joined.low (at + k) (omega arith) ∙ p.low k (omega arith) ∙ ap (λ (x : ℕ). x % q) (sym (linear-first h a b l))

  second_quarter : (k : ℕ) → k < h → part words' at (h + k) ≡ linear (h + h) a b (h + k) % q
  second_quarter k l =
      let place : at + (h + k) ≡ at + h + k = omega arith in
      let outer : at + h + k ≡ at + (h + k) = omega arith in
      ap (λ (j : ℕ). get_or words' j 0) place
      ∙ joined.middle k (omega arith)
      ∙ (cong_add (cong_trans (cong_of_eq (ap (λ (j : ℕ). get_or words j 0) outer ∙ p.low (h + k) (omega arith))) (cong_mod q _)) (middle k (omega arith))).same
      ∙ ap (λ (x : ℕ). x % q) (sym (linear-second h a b l))

  third_quarter : (k : ℕ) → k < h → part words' at (h + h + k) ≡ linear (h + h) a b (h + h + k) % q
  third_quarter k l =
      let place : at + (h + h + k) ≡ at + h + (h + k) = omega arith in
      let outer : at + h + (h + k) ≡ at + m + k = omega arith in
      ap (λ (j : ℕ). get_or words' j 0) place
      ∙ joined.middle (h + k) (omega arith)
      ∙ (cong_add (cong_trans (cong_of_eq (ap (λ (j : ℕ). get_or words j 0) outer ∙ p.high k (omega arith))) (cong_mod q _))
      (middle (h + k) (omega arith))).same
      ∙ ap (λ (x : ℕ). x % q) (add_comm _ _ ∙ sym (linear-third h a b k))

  fourth_quarter : (k : ℕ) → k < h → part words' at (h + h + (h + k)) ≡ linear (h + h) a b (h + h + (h + k)) % q
  fourth_quarter k l =
      let outer : at + (h + h + (h + k)) ≡ at + m + (h + k) = omega arith in
      joined.high (at + (h + h + (h + k))) (omega arith) (omega arith)
      ∙ ap (λ (j : ℕ). get_or words j 0) outer ∙ p.high (h + k) (omega arith)
      ∙ ap (λ (x : ℕ). x % q) (sym (linear_fourth h a b k))

  in_quarters : (k : ℕ) → k < h + h + (h + h) → part words' at k ≡ linear (h + h) a b k % q
  in_quarters k l =
      elim (dec_lt k h) [
        | yes s ↦ first_quarter k s
        | no s ↦ elim (dec_lt k (h + h)) [
          | yes u ↦ moved (h + (k - h)) (omega arith) (second_quarter (k - h) (omega arith))
          | no u ↦ elim (dec_lt k (h + h + h)) [
            | yes v ↦ moved (h + h + (k - (h + h))) (omega arith) (third_quarter (k - (h + h)) (omega arith))
            | no v ↦ moved (h + h + (h + (k - (h + h + h)))) (omega arith) (fourth_quarter (k - (h + h + h)) (omega arith))
          ]
        ]
      ]
    where
      moved : (j : ℕ) → j ≡ k → part words' at j ≡ linear (h + h) a b j % q → part words' at k ≡ linear (h + h) a b k % q
      moved j e same = subst (λ (i : ℕ). part words' at i ≡ linear (h + h) a b i % q) e same

  pub put_together : (k : ℕ) → k < m + m → part words' at k ≡ linear m a b k % q
  put_together k l = subst (λ (n : ℕ). part words' at k ≡ linear n a b k % q) (sym half) (in_quarters k (omega arith))

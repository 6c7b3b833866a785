-- The factors in words of their own: copied, and filled up with 0.
--
--   Loaded           the first n of m coefficients are an element's, the others 0
-- Assumes nothing.
use Prim.Native.Nat.{ℕ, ◌+◌, ◌*◌, ◌≤◌, ◌<◌, zero-le}
use native.Mathlib.Nat.{lt_of_lt_of_le}
use native.Mathlib.Omega.{arith}
use native.Mathlib.Decide.{dec_lt}
use mathlib.Core.Path.{◌≡◌, ◌∙◌, ap}
use mathlib.Core.List.{List}
use lib.Arith.{lt-one}
use lib.Dec.{lit<}
use lib.ListN.{length, get_or, replicate, get_or-replicate}
use Rattle.definitions.specs.Sequences.{tabulate}
use Rattle.definitions.specs.Ring.{Element, InRing, element_of}
use Rattle.definitions.proofs.Sums.{length-tabulate}
use Rattle.ring.specs.Work.{part, written}
use Rattle.ring.proofs.Work.{part-written, length-written-tabulate, get_or-written-before, get_or-written-after}

pub record Loaded (n m : ℕ) (a f : Element) : Type 0 where
  pub inside : (k : ℕ) → k < n → f k ≡ a k
  pub outside : (k : ℕ) → n ≤ k → k < m → f k ≡ 0

pub loaded_below : {n m top : ℕ} {a f : Element} → Loaded n m a f → 0 < top → InRing top n a → InRing top m f
loaded_below {n} l h g k s = elim (dec_lt k n) [ yes u ↦ rw (l.inside k u) (g k u) | no u ↦ rw (l.outside k (omega arith) s) h ]

pub zeros_below : (m : ℕ) {n : ℕ} → n ≤ m → InRing 1 n (element_of (replicate m 0))
zeros_below m h k l = rw (get_or-replicate {A = ℕ} m k 0 0 (lt_of_lt_of_le l h)) (lit< tt)

-- a at the front of words that were 0, then b at m
module _ (n m : ℕ) (a b : Element) (old mid new : List ℕ) (fits : n ≤ m) (room : 2 * m ≤ length old) (clear : InRing 1 (2 * m) (element_of old))
    (front : mid ≡ written 0 (tabulate n a) old) (behind : new ≡ written m (tabulate n b) mid) where
  length_mid : length mid ≡ length old
  length_mid = ap length front ∙ length-written-tabulate 0 n a old (omega arith)

  mid_past : (j : ℕ) → n ≤ j → j < 2 * m → get_or mid j 0 ≡ 0
  mid_past j h l =
      ap (λ (w : List ℕ). get_or w j 0) front
      ∙ get_or-written-after 0 (tabulate n a) old zero-le (omega (arith, length-tabulate n a))
      ∙ lt-one (clear j l)

  new_front : (j : ℕ) → j < m → part new 0 j ≡ part mid 0 j
  new_front j l =
      ap (λ (w : List ℕ). part w 0 j) behind ∙ get_or-written-before m (tabulate n b) mid (omega (arith, length_mid)) (omega arith)

  loaded_front : Loaded n m a (part new 0)
  loaded_front = record {
    inside = λ k l. new_front k (omega arith) ∙ ap (λ (w : List ℕ). part w 0 k) front ∙ part-written 0 n a old zero-le l;
    outside = λ k h l. new_front k l ∙ mid_past (0 + k) (omega arith) (omega arith);
  }

  loaded_behind : Loaded n m b (part new m)
  loaded_behind = record {
    inside = λ k l. ap (λ (w : List ℕ). part w m k) behind ∙ part-written m n b mid (omega (arith, length_mid)) l;
    outside = λ k h l.
        ap (λ (w : List ℕ). part w m k) behind
        ∙ get_or-written-after m (tabulate n b) mid (omega (arith, length_mid)) (omega (arith, length-tabulate n b))
        ∙ mid_past (m + k) (omega arith) (omega arith);
  }

  pub loaded_both : Loaded n m a (part new 0) × Loaded n m b (part new m)
  loaded_both = (loaded_front, loaded_behind)

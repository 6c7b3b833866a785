-- The products of a level: no step writes over a word that a later one still reads, so that in the end the three products stand where
-- they are put together, and each is called on coefficients below its bounds.
--
-- The words are named by the step that leaves them: summed (the sums of the halves), crossed (their product), lower (the product of the
-- lower halves) and outer (that of the upper ones beside it).
-- Assumes nothing.
use Prim.Native.Nat.{ℕ, ◌+◌, ◌%◌, ◌<◌}
use native.Mathlib.Nat.{add_assoc, mod-lt}
use native.Mathlib.Omega.{arith}
use mathlib.Core.Path.{◌≡◌, ◌∙◌, ap}
use mathlib.Core.List.{List}
use lib.ListN.{length, get_or}
use Rattle.definitions.specs.Ring.{InRing}
use Rattle.ring.specs.Work.{part}
use Rattle.ring.specs.Linear.{linear}
use Rattle.ring.proofs.Linear.{upper, linear_cong}
use Rattle.karatsuba.specs.Products.{Placing, Multiplied, BoundsSums, HalvesAdded, Joined}
use Rattle.karatsuba.proofs.Steps.{upper_ring, kept_ring}
use Rattle.karatsuba.proofs.Identity.{Three, put_together}

-- ---- where products of a level stand: that of the sums and that of the upper halves
module _ {m h a b at free : ℕ} {words : List ℕ} (half : m ≡ h + h) (places : Placing m a b at free words) {new : List ℕ}
    (long : length new ≡ length words) where
  pub placing_sums : Placing h at (at + h) free (free + m) new
  placing_sums = record { first = omega arith; second = omega arith; product = omega arith; room = omega arith }

  pub placing_upper : Placing h (a + h) (b + h) (at + m) (free + m) new
  placing_upper = record { first = omega arith; second = omega arith; product = omega arith; room = omega arith }

-- ---- the sums of the halves
pub summed_ring : {q top r h a b at : ℕ} {words summed : List ℕ} → 0 < q → BoundsSums q top r → HalvesAdded q h a b at words summed
    → InRing top (h + h) (part words b)
    → InRing q h (part summed at) × InRing r h (part summed (at + h))
summed_ring {h = h} {b = b} {words = words} pos sums added ring = (
  λ k l. rw (added.first k l) (mod-lt _ pos),
  λ k l. rw (added.second k l) (sums.bounds _ _ (ring k (omega arith)) (upper_ring b h words (omega arith) ring k l)),
)

-- ---- the product of the sums
module _ {q m h a b at free : ℕ} {words summed crossed : List ℕ} (half : m ≡ h + h) (places : Placing m a b at free words)
    (added : HalvesAdded q h a b at words summed) (cross : Multiplied q h at (at + h) free (free + m) summed crossed) where
  crossed_kept : (k : ℕ) → k < at → get_or crossed k 0 ≡ get_or words k 0
  crossed_kept k l = cross.kept k (omega arith) ∙ added.kept k l

  crossed_same : (k : ℕ) → k < m → part crossed free k ≡ linear h (λ i. (part words a i + upper h (part words a) i) % q)
      (λ i. (part words b i + upper h (part words b) i) % q) k % q
  crossed_same k l = cross.same k (omega arith)
      ∙ ap (λ (x : ℕ). x % q) (linear_cong h (λ i s. added.first i s ∙ sums a i) (λ i s. added.second i s ∙ sums b i) k)
    where
      sums : (c i : ℕ) → (part words c i + part words (c + h) i) % q ≡ (part words c i + upper h (part words c) i) % q
      sums c i = ap (λ (j : ℕ). (part words c i + get_or words j 0) % q) (add_assoc c h i)

  -- what the upper halves are read from
  pub lowered_ring : {top : ℕ} {lower : List ℕ} → Multiplied q h a b at (free + m) crossed lower → InRing q m (part words a) × InRing top m (part words b)
      → InRing q h (part lower (a + h)) × InRing top h (part lower (b + h))
  lowered_ring {lower = lower} low ring = (
    upper_ring a h lower (omega arith) (kept_ring a words lower places.first kept ring.0),
    upper_ring b h lower (omega arith) (kept_ring b words lower places.second kept ring.1),
  )
    where
      kept : (k : ℕ) → k < at → get_or lower k 0 ≡ get_or words k 0
      kept k l = low.kept k l ∙ crossed_kept k l

  -- ---- the products of the lower and of the upper halves
  module _ {lower outer : List ℕ} (low : Multiplied q h a b at (free + m) crossed lower)
      (high : Multiplied q h (a + h) (b + h) (at + m) (free + m) lower outer) where
    pub three : Three q m h at free (part words a) (part words b) outer
    three = record {
      low = λ k l. high.kept (at + k) (omega arith) ∙ low.same k (omega arith)
          ∙ ap (λ (x : ℕ). x % q) (linear_cong h (λ i s. crossed_kept (a + i) (omega arith)) (λ i s. crossed_kept (b + i) (omega arith)) k);
      high = λ k l. high.same k (omega arith) ∙ ap (λ (x : ℕ). x % q) (linear_cong h (λ i s. halves a i (omega arith)) (λ i s. halves b i (omega arith)) k);
      sums = λ k l. high.between (free + k) (omega arith) (omega arith) ∙ low.between (free + k) (omega arith) (omega arith) ∙ crossed_same k l;
    }
      where
        halves : (c i : ℕ) → c + h + i < at → part lower (c + h) i ≡ upper h (part words c) i
        halves c i l = low.kept (c + h + i) l ∙ crossed_kept (c + h + i) l ∙ ap (λ (j : ℕ). get_or words j 0) (add_assoc c h i)

    pub level_multiplied : {new : List ℕ} → 0 < q → Joined q m h at free outer new → Multiplied q m a b at free words new
    level_multiplied pos joined = record {
      kept = λ k l. joined.low k (omega arith) ∙ high.kept k (omega arith) ∙ low.kept k l ∙ crossed_kept k l;
      between = λ k s l. joined.high k (omega arith) l ∙ high.between k (omega arith) (omega arith) ∙ low.between k (omega arith) (omega arith)
          ∙ cross.kept k l ∙ added.behind k (omega arith);
      same = put_together pos half places.product three joined;
    }

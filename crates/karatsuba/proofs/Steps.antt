-- What several lists written over the words leave at each place: the steps before and after the three products.
-- Assumes nothing.
use Prim.Native.Nat.{ℕ, ◌+◌, ◌-◌, ◌%◌, ◌≤◌, ◌<◌}
use native.Mathlib.Nat.{add_assoc}
use native.Mathlib.Omega.{arith}
use mathlib.Core.Path.{◌≡◌, ◌∙◌, ap₂, subst}
use mathlib.Core.List.{List}
use lib.ListN.{length, get_or}
use Rattle.definitions.specs.Sequences.{tabulate}
use Rattle.definitions.specs.Ring.{InRing}
use Rattle.ring.specs.Work.{part, written, element_added, element_taken}
use Rattle.ring.proofs.Work.{Wrote, wrote}
use Rattle.karatsuba.specs.Products.{HalvesAdded, Joined}

-- ---- coefficients stay below their bounds

pub upper_ring : {q m h : ℕ} (at from : ℕ) (words : List ℕ) → from + h ≤ m → InRing q m (part words at) → InRing q h (part words (at + from))
upper_ring at from words fit ring k l = rw (add_assoc at from k) (ring (from + k) (omega arith))

pub kept_ring : {q m at : ℕ} (from : ℕ) (old new : List ℕ) → from + m ≤ at → ((k : ℕ) → k < at → get_or new k 0 ≡ get_or old k 0) → InRing q m (part old from)
    → InRing q m (part new from)
kept_ring from old new fit kept ring k l = rw (kept (from + k) (omega arith)) (ring k l)

-- at any place of a part that is kept
pub kept_at : (from : ℕ) (old new : List ℕ) {q n at : ℕ} → ((k : ℕ) → k < at → get_or new k 0 ≡ get_or old k 0) → from + n ≤ at → InRing q n (part old from)
    → (j : ℕ) → from ≤ j → j < from + n → get_or new j 0 < q
kept_at from old new {q} kept fit ring j l s =
    let place : from + (j - from) ≡ j = omega arith in
    rw (kept j (omega arith)) (subst (λ (i : ℕ). get_or old i 0 < q) place (ring (j - from) (omega arith)))

-- ---- the sums of the halves

-- a copy of the lower half, and the upper one added to it
pub wrote_sum : {h at : ℕ} (q a : ℕ) {words mid new : List ℕ} → a + (h + h) ≤ at → at + h ≤ length words
    → mid ≡ written at (tabulate h (part words a)) words → new ≡ element_added h q (a + h) at mid
    → Wrote at h (λ k. (part words a k + part words (a + h) k) % q) words new
wrote_sum {h} {at} q a {words} {mid} inside fit e g =
    let w = wrote fit e in
    let v = wrote {old = mid} (omega (arith, w.as_long)) g in
    record {
      as_long = v.as_long ∙ w.as_long;
      inside = λ k l. v.inside k l ∙ ap₂ (λ x y. (x + y) % q) (w.inside k l) (w.before (a + h + k) (omega arith));
      before = λ k l. v.before k l ∙ w.before k l;
      after = λ k l. v.after k l ∙ w.after k l;
    }

pub halves_added : {q h a b at : ℕ} {words mid new : List ℕ} → b + (h + h) ≤ at
    → Wrote at h (λ k. (part words a k + part words (a + h) k) % q) words mid → Wrote (at + h) h (λ k. (part mid b k + part mid (b + h) k) % q) mid new
    → HalvesAdded q h a b at words new
halves_added {q} {h} {a} {b} {at} {words} {mid} inside w v = record {
  kept = λ k l. v.before k (omega arith) ∙ w.before k l;
  behind = λ k l. v.after k (omega arith) ∙ w.after k (omega arith);
  first = λ k l. v.before (at + k) (omega arith) ∙ w.inside k l;
  second = λ k l. v.inside k l ∙ ap₂ (λ x y. (x + y) % q) (w.before (b + k) (omega arith)) (w.before (b + h + k) (omega arith));
}

-- ---- the three products put together
pub joined : {q m h at free : ℕ} {words first second new : List ℕ} → at + (m + m) ≤ free → free + m ≤ length words → m ≡ h + h
    → first ≡ element_taken m q at free words → second ≡ element_taken m q (at + m) free first → new ≡ element_added m q free (at + h) second
    → Joined q m h at free words new
joined {q} {m} {h} {at} {free} {words} {first} {second} room fit half e g d =
    let u = wrote (omega arith) e in
    let v = wrote {old = first} (omega (arith, u.as_long)) g in
    let w = wrote {old = second} (omega (arith, u.as_long, v.as_long)) d in
    record {
      low = λ k l. w.before k l ∙ v.before k (omega arith) ∙ u.before k (omega arith);
      middle = λ k l. w.inside k l
          ∙ ap₂ (λ x y. (x + y) % q) (v.before (at + h + k) (omega arith) ∙ u.before (at + h + k) (omega arith))
          (v.inside k l ∙ ap₂ (λ x y. (x + (q - y)) % q) (u.inside k l) (u.before (at + m + k) (omega arith)));
      high = λ k s l. w.after k s ∙ v.before k l ∙ u.before k l;
    }

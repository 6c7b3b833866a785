-- The levels: m is leaf times 2^levels, so that it is even but at the last level, where it is leaf.
-- Assumes nothing.
use Prim.Native.Nat.{ℕ, suc, ◌+◌, ◌-◌, ◌*◌, ◌^◌, ◌/◌, ◌≤◌}
use native.Mathlib.Nat.{mul-one, pow-suc, pos_of_ne-zero}
use native.Mathlib.Omega.{arith}
use mathlib.Core.Path.{◌≡◌, sym, ◌∙◌, ap, subst}
use mathlib.Core.List.{List}
use lib.ListN.{length}
use Rattle.ring.proofs.Work.{wrote}
use Rattle.rows.specs.Rows.{leaf_product}
use Rattle.karatsuba.specs.Halvable.{Halvable}
use Rattle.karatsuba.specs.Products.{Multiplied}

module _ {levels leaf m : ℕ} (p : Halvable levels leaf m) where
  pub level_none : levels ≡ 0 → m ≡ leaf
  level_none z = p.whole ∙ ap (λ (l : ℕ). leaf * 2 ^ l) z ∙ mul-one leaf

  twice : (levels ≡ 0 → ⊥) → m ≡ 2 * (leaf * 2 ^ (levels - 1))
  twice f =
      let pos = pos_of_ne-zero f in
      let next : levels ≡ suc (levels - 1) = omega arith in
      p.whole ∙ ap (λ (l : ℕ). leaf * 2 ^ l) next ∙ rw pow-suc (omega arith)

  pub level_half : (levels ≡ 0 → ⊥) → m ≡ m / 2 + m / 2
  level_half f = omega (arith, twice f)

  pub level_below : (levels ≡ 0 → ⊥) → Halvable (levels - 1) leaf (m / 2)
  level_below f = record { whole = omega (arith, twice f); short = p.short; most = omega (arith, p.most) }

-- ---- a leaf's product
pub leaf_multiplied : {q m leaf a b at free : ℕ} {words words' : List ℕ} → m ≡ leaf → at + (m + m) ≤ length words → words' ≡ leaf_product q leaf a b at words
    → Multiplied q m a b at free words words'
leaf_multiplied {q} {m} {leaf} {a} {b} {at} {free} {words} {words'} e fit same =
    let w = wrote {at = at} {n = leaf + leaf} {old = words} (omega arith) same in
    subst (λ (n : ℕ). Multiplied q n a b at free words words') (sym e) (record { kept = w.before; between = λ k s l. w.after k s; same = w.inside })

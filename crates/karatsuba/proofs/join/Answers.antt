-- `karatsuba::join` meets its contract: each step writes one part and leaves the others, and all coefficients stay below q.
-- Assumes nothing.
use Rattle.std.proofs.Common.{refl, arith}
use native.Mathlib.Nat.{mod-lt}
use Rattle.ring.proofs.Work.{wrote, inside_ring}
use Rattle.karatsuba.proofs.Steps.{kept_ring, kept_at, joined}
use Rattle.karatsuba.proofs.join.Goals as goal

-- a difference leaves the outer products
pub subtract-requires-2-clause-in_ring : goal.subtract-requires-2-clause-in_ring
subtract-requires-2-clause-in_ring c =
    let a = c.args in
    let words = c.subtract.new.work in
    let w = wrote (omega arith) c.subtract.ensures in
    let kept = kept_ring a.at a.words.now words (omega arith) w.before c.requires.in_ring.0 in (
      inside_ring w (λ k l. mod-lt _ (omega arith)),
      λ k l. kept_at a.at words words {at = a.free} (λ k l. refl) (omega arith) kept _ (omega arith) (omega arith),
    )

pub add-requires-clause-in_ring : goal.add-requires-clause-in_ring
add-requires-clause-in_ring c =
    let a = c.args in
    let words = c.subtract.new.work in
    let w = wrote (omega arith) c.subtract.ensures in
    let kept = kept_ring a.at a.words.now words (omega arith) w.before c.requires.in_ring.0 in
    let v = wrote (omega arith) c.subtract-2.ensures in (
      λ k l. kept_at a.at words c.subtract-2.new.work v.before (omega arith) kept _ (omega arith) (omega arith),
      inside_ring v (λ k l. mod-lt _ (omega arith)),
    )

pub returns : goal.returns
returns c = joined (omega arith) (omega arith) (omega arith) c.subtract.ensures c.subtract-2.ensures c.add.ensures

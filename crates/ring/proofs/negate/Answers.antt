-- `ring::negate` meets its contract: a turn negates the coefficient of its place, which no turn before it has written.
-- Assumes nothing.
use Rattle.std.proofs.Common.{◌-◌, ◌%◌, arith}
use native.Mathlib.Nat.{zero-add}
use Rattle.ring.proofs.Work.{writing_none, writing_one, writing_own_ring}
use Rattle.ring.proofs.negate.Goals as goal

pub loop-k-init : goal.loop-k-init
loop-k-init c = writing_none (omega arith)

pub loop-k-preserved : goal.loop-k-preserved
loop-k-preserved c =
    let q = c.args.q in
    writing_one (λ j x. (q - x) % q) c.loop-k.invariant c.loop-k-test.true (rw zero-add at c.difference.ensures)

pub difference-requires : goal.difference-requires
difference-requires c =
    let below = writing_own_ring c.loop-k.invariant c.requires.2 c.loop-k-test.true in
    (omega arith, below, c.requires.1)

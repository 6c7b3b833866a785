-- `rows::reduce` meets its contract: a turn reduces the sum of its place.
-- Assumes nothing.
use Rattle.std.proofs.Common.{sym, arith}
use native.Mathlib.Nat.{zero-add}
use Rattle.ring.proofs.Work.{writing_none, writing_more, writing_all}
use Rattle.rows.proofs.reduce.Goals as goal

pub loop-k-init : goal.loop-k-init
loop-k-init c = writing_none (omega arith)

pub loop-k-preserved : goal.loop-k-preserved
loop-k-preserved c = writing_more c.loop-k.invariant (sym (zero-add c.loop-k.k)) (omega arith) c.remainder.ensures

pub returns : goal.returns
returns c = writing_all c.loop-k.invariant (omega arith)

-- `ring::combine` meets its contract: a turn writes what f may return of the two words of its place, which no turn before it has written.
-- Assumes nothing.
use Rattle.std.proofs.Common.{arith}
use Rattle.ring.proofs.Work.{returns_none, returns_both, returns_all, asked_both}
use Rattle.ring.proofs.combine.Goals as goal

pub loop-k-init : goal.loop-k-init
loop-k-init g c = returns_none (omega arith)

pub f-requires : goal.f-requires
f-requires g c =
    asked_both (goal.F-pre g c.args.f) c.args.e c.requires.n_in_bounds.2 c.loop-k.invariant.writing c.requires.may_be_called c.loop-k-test.true (omega arith)

pub loop-k-preserved : goal.loop-k-preserved
loop-k-preserved g c = returns_both (goal.F-post g c.args.f) c.args.e c.requires.n_in_bounds.2 c.loop-k.invariant c.loop-k-test.true c.f.ensures

pub returns : goal.returns
returns g c = returns_all c.loop-k.invariant c.loop-k-test.false

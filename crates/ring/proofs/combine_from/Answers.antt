-- `ring::combine_from` meets its contract: a turn writes what f may return of the two words of its place, which no turn before it has written.
-- Assumes nothing.
use Rattle.std.proofs.Common.{arith}
use Rattle.ring.specs.Work.{part}
use Rattle.ring.proofs.Work.{returns_none, returns_one, returns_all, writing_own}
use Rattle.ring.proofs.combine_from.Goals as goal

pub loop-k-init : goal.loop-k-init
loop-k-init g c = returns_none (omega arith)

pub f-requires : goal.f-requires
f-requires g c = rw (writing_own c.loop-k.invariant.writing) (c.requires.may_be_called _ _ (omega arith) (omega arith))

pub loop-k-preserved : goal.loop-k-preserved
loop-k-preserved g c =
    returns_one (λ j x r. goal.F-post g c.args.f x (part c.args.other.now c.args.e j) r) c.loop-k.invariant c.loop-k-test.true c.f.ensures

pub returns : goal.returns
returns g c = returns_all c.loop-k.invariant c.loop-k-test.false

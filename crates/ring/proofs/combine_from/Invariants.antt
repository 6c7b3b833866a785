-- `ring::combine_from` meets its contract: a turn writes what f may return of the two words of its place, which no turn before it has written.
-- Assumes nothing.
use Rattle.ring.specs.Work.{part}
use Rattle.ring.proofs.Work.{WritingReturns}
use Rattle.ring.proofs.combine_from.Given as goal

abbrev pub invariant-loop-k : goal.invariant-loop-k
invariant-loop-k g l = WritingReturns l.c l.n (λ j r. goal.F-post g l.f (part l.initial.work l.c j) (part l.other l.e j) r) l.initial.work l.k l.work

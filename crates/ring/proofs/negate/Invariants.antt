-- `ring::negate` meets its contract: a turn negates the coefficient of its place, which no turn before it has written.
-- Assumes nothing.
use Rattle.std.proofs.Common.{◌-◌, ◌%◌}
use Rattle.ring.specs.Work.{part}
use Rattle.ring.proofs.Work.{WritingWords}
use Rattle.ring.proofs.negate.Given as goal

abbrev pub invariant-loop-k : goal.invariant-loop-k
invariant-loop-k l = WritingWords l.a l.n (λ j. (l.q - part l.initial.work l.a j) % l.q) l.initial.work l.k l.work

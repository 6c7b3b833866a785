-- After k turns the first k words of the element are written.
-- Assumes nothing.
use Rattle.std.proofs.Common.{◌+◌, ◌%◌}
use Rattle.ring.specs.Work.{part}
use Rattle.ring.proofs.Work.{WritingWords}
use Rattle.products.proofs.fold.Given as goal

abbrev pub invariant-loop-k : goal.invariant-loop-k
invariant-loop-k l = WritingWords l.c l.n (λ j. (part l.words l.at j + part l.words l.at (l.n + j) + part l.initial.work l.c j) % l.q) l.initial.work l.k l.work

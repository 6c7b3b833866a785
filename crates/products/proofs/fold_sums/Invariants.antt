-- After k turns the first k words of the element are written.
-- Assumes nothing.
use Rattle.std.proofs.Common.{◌+◌, ◌%◌, get_or}
use Rattle.ring.specs.Work.{part}
use Rattle.ring.proofs.Work.{WritingWords}
use Rattle.products.proofs.fold_sums.Given as goal

abbrev pub invariant-loop-k : goal.invariant-loop-k
invariant-loop-k l =
    WritingWords l.c l.n (λ j. (get_or l.low j 0 + get_or l.low (l.n + j) 0 + part l.initial.work l.c j) % l.modulus.q) l.initial.work l.k l.work

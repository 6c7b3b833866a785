-- `reduce` writes one word a turn: after k turns the first k words are modulo l, since l is a power of two and the bits below it are kept.
-- Assumes nothing.
use Rattle.std.proofs.Common.{◌%◌}
use Rattle.ring.specs.Work.{part}
use Rattle.ring.proofs.Work.{WritingWords}
use Rattle.decryption.proofs.reduce.Given as goal

abbrev pub invariant-loop-k : goal.invariant-loop-k
invariant-loop-k l = WritingWords l.at l.n (λ j. part l.initial.work l.at j % l.l) l.initial.work l.k l.work

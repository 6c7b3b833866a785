-- The coefficients before k are written after the seven zeros.
-- Assumes nothing.
use Rattle.std.proofs.Common.{length}
use Rattle.definitions.specs.Ring.{element_of}
use Rattle.ring.proofs.Work.{WritingWords}
use Rattle.rows.proofs.pad.Given as goal

abbrev pub invariant-loop-k : goal.invariant-loop-k
invariant-loop-k l = WritingWords 7 (length l.b) (element_of l.b) l.initial.row l.k l.row

-- At the places before k of those that the four rows reach, their sum is added.
-- Assumes nothing.
use Rattle.std.proofs.Common.{◌+◌, length}
use Rattle.definitions.specs.Ring.{element_of}
use Rattle.ring.specs.Work.{part}
use Rattle.ring.proofs.Work.{WritingWords}
use Rattle.rows.specs.Rows.{four_rows}
use Rattle.rows.proofs.add_last_rows.Given as goal

abbrev pub invariant-loop-k : goal.invariant-loop-k
invariant-loop-k l =
    WritingWords l.i (length l.a + 3) (λ j. part l.initial.low l.i j + four_rows (length l.a) (element_of l.a) (part l.row 7) l.i (l.i + j)) l.initial.low l.k l.low

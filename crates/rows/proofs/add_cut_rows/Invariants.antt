-- At the places before k of those that the eight rows reach, their two sums are cut and added.
-- Assumes nothing.
use Rattle.std.proofs.Common.{◌+◌, ◌%◌, ◌/◌, length}
use Rattle.definitions.specs.Ring.{element_of}
use Rattle.ring.specs.Work.{part}
use Rattle.ring.proofs.Work.{WritingWords}
use Rattle.rows.specs.Rows.{eight_rows}
use Rattle.rows.proofs.add_cut_rows.Given as goal

abbrev pub invariant-loop-k : goal.invariant-loop-k
invariant-loop-k l =
    WritingWords l.i (length l.a + 7)
    (λ j. part l.initial.low l.i j + eight_rows (λ s. s % 4398046511104) (length l.a) (element_of l.a) (part l.row 7) l.i (l.i + j))
    l.initial.low
    l.k l.low
    × WritingWords l.i (length l.a + 7)
    (λ j. part l.initial.high l.i j + eight_rows (λ s. s / 4398046511104) (length l.a) (element_of l.a) (part l.row 7) l.i (l.i + j))
    l.initial.high
    l.k l.high

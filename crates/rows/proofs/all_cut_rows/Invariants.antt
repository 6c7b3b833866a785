-- After i rows the halves hold the sum of the first i rows.
-- Assumes nothing.
use Rattle.std.proofs.Common.{length}
use Rattle.definitions.specs.Ring.{element_of}
use Rattle.ring.specs.Work.{part}
use Rattle.rows.proofs.Rows.{CutRows}
use Rattle.rows.proofs.all_cut_rows.Given as goal

abbrev pub invariant-loop-i : goal.invariant-loop-i
invariant-loop-i l = CutRows (length l.a) (element_of l.a) (part l.row 7) l.i l.low l.high

-- `write_digits` meets its contract: each turn of the loop is a law of Writing.
-- Assumes nothing.
use Rattle.std.proofs.Common.{arith}
use Rattle.roomsheet_print.proofs.Printing.{writing_start, writing_next, writing_end}
use Rattle.roomsheet_print.proofs.write_digits.Goals as goal

pub loop-i-init : goal.loop-i-init
loop-i-init c = writing_start _ _

pub loop-i-preserved : goal.loop-i-preserved
loop-i-preserved c = writing_next _ _ _ _ c.loop-i.invariant _ (omega arith)

pub returns : goal.returns
returns c = writing_end _ _ _ _ c.loop-i.invariant c.loop-i-test.false (omega arith)

-- `read_digits` meets its contract: at each place the digits so far and their number stand for the front of the field.
-- Assumes nothing.
use Rattle.roomsheet_parse.proofs.Numbers.{Reading}
use Rattle.roomsheet_parse.proofs.read_digits.Given as goal

abbrev pub invariant-loop-i : goal.invariant-loop-i
invariant-loop-i l = Reading l.line l.from l.value l.i

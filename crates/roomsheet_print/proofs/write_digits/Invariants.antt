-- `write_digits` meets its contract: where the digits from i on are written, they are the last of the number, and rest has the others.
-- Assumes nothing.
use Rattle.roomsheet_print.proofs.Printing.{Writing}
use Rattle.roomsheet_print.proofs.write_digits.Given as goal

abbrev pub invariant-loop-i : goal.invariant-loop-i
invariant-loop-i l = Writing l.octets l.x l.rest l.i

-- `parse_numbers` meets its contract: after so many fields, the line is well formed with so many numbers where the rest is with as many fewer,
-- and the numbers stored with those of the rest are the line's.
-- Assumes nothing.
use Rattle.roomsheet_parse.proofs.Fields.{Progress}
use Rattle.roomsheet_parse.proofs.parse_numbers.Given as goal

abbrev pub invariant-loop-count : goal.invariant-loop-count
invariant-loop-count l = Progress l.line l.fn.numbers l.numbers l.at l.count

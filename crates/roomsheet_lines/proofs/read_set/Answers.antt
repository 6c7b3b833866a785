-- `read_set` meets its contract: six numbers name a set in edition 1, seven one in the edition that the last gives, and no others name one.
-- Assumes nothing.
use borrow.Author.Rules.{rules}
use Rattle.roomsheet_lines.proofs.Judging.{named_six, named_seven}
use Rattle.roomsheet_lines.proofs.read_set.Goals as goal

pub returns-in-6 : goal.returns-in-6
returns-in-6 c = named_six _ _ _ c.in_ok-parse_numbers.ensures _ c.in-6.is c.set_of.ensures

pub returns-in-7 : goal.returns-in-7
returns-in-7 c = named_seven _ _ _ c.in_ok-parse_numbers.ensures _ c.in-7.is (search rules) c.set_of-in-7.ensures

-- `put_answer` meets its contract: a line that names a set is answered as that set, and any other is 11.
-- Assumes nothing.
use Rattle.roomsheet_lines.proofs.Judging.{answer_named, answer_malformed}
use Rattle.roomsheet_lines.proofs.put_answer.Goals as goal

pub returns-in-Some : goal.returns-in-Some
returns-in-Some c = rw (← answer_named _ _ c.in-Some.ensures) c.put_set.ensures

pub returns-in-None : goal.returns-in-None
returns-in-None c = rw (← answer_malformed _ c.in-None.ensures) (rw c.from.ensures at c.put_number.ensures)

-- `put_set` meets its contract: what the constructor answered is what is printed.
-- Assumes nothing.
use Rattle.roomsheet_lines.proofs.Judging.{answered-accepted, answered-refused}
use Rattle.roomsheet_lines.proofs.put_set.Goals as goal

pub returns-in-Ok : goal.returns-in-Ok
returns-in-Ok c =
    rw (← answered-accepted _ c.new.ensures _ c.in-Ok.is _ c.limits.ensures) c.put_limits.ensures

pub returns-in-Err : goal.returns-in-Err
returns-in-Err c = rw (← answered-refused _ c.new.ensures _ c.in-Err.is) (rw c.from.ensures at c.put_number.ensures)

-- `giophantus_check` answers the number of what the set's constructor answers.
-- Assumes nothing.
use Rattle.std.proofs.Common.{sym}
use Rattle.parameters.proofs.Answers.{checked_accepted, checked_refused}
use Rattle.giophantus.proofs.giophantus_check.Goals as goal

pub returns-in-Ok : goal.returns-in-Ok
returns-in-Ok c = sym (checked_accepted _ c.new.ensures c.in-Ok.is).0

pub returns-in-Err : goal.returns-in-Err
returns-in-Err c = rw c.from.ensures (checked_refused _ c.new.ensures c.in-Err.is).0

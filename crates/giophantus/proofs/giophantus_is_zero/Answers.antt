-- `giophantus_is_zero` hands the set that the constructor accepted to `is_zero`.
-- Assumes nothing.
use Rattle.parameters.proofs.Answers.{checked_accepted}
use Rattle.giophantus.proofs.Exits.{is_zero-refused}
use Rattle.giophantus.proofs.giophantus_is_zero.Goals as goal

pub returns-in-Ok : goal.returns-in-Ok
returns-in-Ok c = rw (c.number.ensures, ← (checked_accepted _ c.new.ensures c.in-Ok.is).1) c.is_zero.ensures

pub returns-in-Err : goal.returns-in-Err
returns-in-Err c = rw c.from.ensures (is_zero-refused _ c.new.ensures c.in-Err.is _ _ _ _)

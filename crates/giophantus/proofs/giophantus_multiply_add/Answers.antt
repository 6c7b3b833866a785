-- `giophantus_multiply_add` hands the set that the constructor accepted to `multiply_add`.
-- Assumes nothing.
use Rattle.parameters.proofs.Answers.{checked_accepted}
use Rattle.giophantus.proofs.Exits.{multiply_add-refused}
use Rattle.giophantus.proofs.giophantus_multiply_add.Goals as goal

pub returns-in-Ok : goal.returns-in-Ok
returns-in-Ok c = rw (c.number.ensures, ← (checked_accepted _ c.new.ensures c.in-Ok.is).1) c.multiply_add.ensures

pub returns-in-Err : goal.returns-in-Err
returns-in-Err c = rw c.from.ensures (multiply_add-refused _ c.new.ensures c.in-Err.is _ _ _)

-- `giophantus_encrypt` hands the set that the constructor accepted to `encrypt`.
-- Assumes nothing.
use Rattle.parameters.proofs.Answers.{checked_accepted}
use Rattle.giophantus.proofs.Exits.{encrypt-refused}
use Rattle.giophantus.proofs.giophantus_encrypt.Goals as goal

pub returns-in-Ok : goal.returns-in-Ok
returns-in-Ok c = rw (c.number.ensures, ← (checked_accepted _ c.new.ensures c.in-Ok.is).1) c.encrypt.ensures

pub returns-in-Err : goal.returns-in-Err
returns-in-Err c = rw c.from.ensures (encrypt-refused _ c.new.ensures c.in-Err.is _ _ _ _ _ _ _)

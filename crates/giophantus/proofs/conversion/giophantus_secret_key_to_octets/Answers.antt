-- `giophantus_secret_key_to_octets` hands the set that the constructor accepted to `pack`, with two packed elements.
-- Assumes nothing.
use Rattle.parameters.proofs.Answers.{checked_accepted}
use Rattle.giophantus.proofs.Exits.{pack_refused}
use Rattle.giophantus.proofs.conversion.giophantus_secret_key_to_octets.Goals as goal

pub returns-in-Ok : goal.returns-in-Ok
returns-in-Ok c = rw (c.number.ensures, ← (checked_accepted _ c.new.ensures c.in-Ok.is).1) c.pack.ensures

pub returns-in-Err : goal.returns-in-Err
returns-in-Err c = rw c.from.ensures (pack_refused _ c.new.ensures c.in-Err.is _ _ _)

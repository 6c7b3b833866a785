-- `giophantus_element_from_octets` hands the set that the constructor accepted to `decode`, with one ring element.
-- Assumes nothing.
use Rattle.parameters.proofs.Answers.{checked_accepted}
use Rattle.giophantus.proofs.Exits.{decode_refused}
use Rattle.giophantus.proofs.conversion.giophantus_element_from_octets.Goals as goal

pub returns-in-Ok : goal.returns-in-Ok
returns-in-Ok c = rw (c.number.ensures, ← (checked_accepted _ c.new.ensures c.in-Ok.is).1) c.decode.ensures

pub returns-in-Err : goal.returns-in-Err
returns-in-Err c = rw c.from.ensures (decode_refused _ c.new.ensures c.in-Err.is _ _ _)

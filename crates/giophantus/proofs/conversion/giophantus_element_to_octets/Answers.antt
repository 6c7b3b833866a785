-- `giophantus_element_to_octets` hands the set that the constructor accepted to `encode`, with one ring element.
-- Assumes nothing.
use Rattle.parameters.proofs.Answers.{checked_accepted}
use Rattle.giophantus.proofs.Exits.{encode_refused}
use Rattle.giophantus.proofs.conversion.giophantus_element_to_octets.Goals as goal

pub returns-in-Ok : goal.returns-in-Ok
returns-in-Ok c = rw (c.number.ensures, ← (checked_accepted _ c.new.ensures c.in-Ok.is).1) c.encode.ensures

pub returns-in-Err : goal.returns-in-Err
returns-in-Err c = rw c.from.ensures (encode_refused _ c.new.ensures c.in-Err.is _ _ _)

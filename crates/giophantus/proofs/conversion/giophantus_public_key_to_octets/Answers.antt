-- `giophantus_public_key_to_octets` hands the set that the constructor accepted to `encode`, with an element for each of the monomials of degree dX.
-- Assumes nothing.
use Rattle.std.proofs.Common.{arith}
use Rattle.parameters.proofs.Answers.{checked_accepted}
use Rattle.giophantus.proofs.Exits.{encode_refused, degrees_most, count_most}
use Rattle.giophantus.proofs.conversion.giophantus_public_key_to_octets.Goals as goal

pub monomial_count-requires : goal.monomial_count-requires
monomial_count-requires c = let degrees = degrees_most _ c.new.ensures c.in-Ok.is in omega arith

pub encode-requires : goal.encode-requires
encode-requires c =
    let degrees = degrees_most _ c.new.ensures c.in-Ok.is in
    count_most _ c.monomial_count.ensures (omega arith)

pub returns-in-Ok : goal.returns-in-Ok
returns-in-Ok c = rw (c.number.ensures, ← (checked_accepted _ c.new.ensures c.in-Ok.is).1, ← c.monomial_count.ensures) c.encode.ensures

pub returns-in-Err : goal.returns-in-Err
returns-in-Err c = rw c.from.ensures (encode_refused _ c.new.ensures c.in-Err.is _ _ _)

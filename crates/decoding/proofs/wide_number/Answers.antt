-- `decoding::wide_number` is right because the first octets of four have the low bits of their number.
-- Assumes nothing.
use Rattle.std.proofs.Common.{arith, sym}
use Rattle.definitions.proofs.Powers.{shl_octets}
use Rattle.decoding.proofs.Laws.{number_of_four}
use Rattle.decoding.proofs.wide_number.Goals as goal

pub returns : goal.returns
returns c =
    rw (shl_octets c.args.len 32 (omega arith), c.four-x.ensures)
    (sym (number_of_four c.args.len c.args.at c.args.octets.now (λ i h. (c.type_inv.octets i).fits) (omega arith) (omega arith)))

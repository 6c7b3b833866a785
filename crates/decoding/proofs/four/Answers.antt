-- `decoding::four` is right because each octet has 256 times the weight of the one before it.
-- Assumes nothing.
use Rattle.std.proofs.Common.{arith}
use Rattle.definitions.specs.Sequences.{sum}
use Rattle.decoding.proofs.Laws.{number_of-take}
use Rattle.decoding.proofs.four.Goals as goal

pub returns : goal.returns
unfolding sum
returns c = omega (arith, number_of-take 3 c.args.at c.args.octets.now c.requires, c.from_le_bytes.ensures)

-- `encoding::pair` is right because the second word has the weight that follows the first word's octets, and 64 bits hold both.
-- Assumes nothing.
use Rattle.std.proofs.Common.{arith}
use Rattle.definitions.proofs.Powers.{shl_octets}
use Rattle.encoding.proofs.pair.Goals as goal

pub returns : goal.returns
returns c = rw (shl_octets c.args.qlen 64 (omega arith))

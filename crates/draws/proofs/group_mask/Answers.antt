-- `group_mask` is right because 1 shifted by fewer than 32 bits is that power of two. Assumes nothing.
use Rattle.definitions.proofs.Powers.{shl_one}
use lib.Pow.{pow_pos}
use Rattle.draws.proofs.Groups.{bit_length-short}
use Rattle.draws.proofs.group_mask.Goals as goal
use Rattle.draws.proofs.group_mask.Goals.{After-bit_length}
use Rattle.std.proofs.Common.{◌<◌}

short : (c : After-bit_length) → c.bit_length.result < 32
short c = rw c.bit_length.ensures (bit_length-short c.args.q c.requires.0 c.requires.1)

pub overflow_shl-result : goal.overflow_shl-result
overflow_shl-result c = short (goal.at.overflow_shl-result c).After-bit_length

pub overflow_sub-result : goal.overflow_sub-result
overflow_sub-result c = rw (shl_one _ 32 (short (goal.at.overflow_sub-result c).After-bit_length)) (pow_pos c.bit_length.result)

pub returns : goal.returns
returns c = rw (shl_one _ 32 (short (goal.at.returns c).After-bit_length), c.bit_length.ensures)

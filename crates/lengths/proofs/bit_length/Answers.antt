-- `bit_length` meets its contract: a number of 32 digits has at most 32 leading zeros, so the difference does not wrap.
-- Assumes nothing.
use Rattle.std.proofs.Common.{refl}
use Rattle.definitions.specs.Parameters.{bit_length}
use Rattle.lengths.proofs.bit_length.Goals as goal

pub returns : goal.returns
unfolding bit_length
returns c = refl

-- `work_length` meets its contract: it is the definition, and 8 times n fits.
-- Assumes nothing.
use Rattle.std.proofs.Common.{refl}
use Rattle.definitions.specs.Parameters.{work_length}
use Rattle.lengths.proofs.work_length.Goals as goal

pub returns : goal.returns
unfolding work_length
returns c = refl

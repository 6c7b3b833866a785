-- `message_length` meets its contract: it is the definition, and mlen plus 7 fits.
-- Assumes nothing.
use Rattle.std.proofs.Common.{refl}
use Rattle.definitions.specs.Parameters.{message_length}
use Rattle.lengths.proofs.message_length.Goals as goal

pub returns : goal.returns
unfolding message_length
returns c = refl

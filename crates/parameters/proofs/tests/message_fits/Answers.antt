-- `message_fits` makes the comparisons of the definition; b is 1 to 4, so nothing wraps.
-- Assumes nothing.
use Rattle.std.proofs.Common.{arith}
use Rattle.definitions.specs.Parameters.{message_fits}
use Rattle.parameters.proofs.Bounds.{small_bits-within}
use Rattle.parameters.proofs.tests.message_fits.Goals as goal

pub nonzero_rem-result : goal.nonzero_rem-result
nonzero_rem-result c = omega (arith, small_bits-within c.args.set.l)

pub returns : goal.returns
unfolding message_fits
returns c = rw c.bits-b.ensures

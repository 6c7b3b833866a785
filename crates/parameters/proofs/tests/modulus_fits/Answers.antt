-- `modulus_fits`: test 4 sees no difference between B and the lesser of B and 2^31.
-- Assumes nothing.
use Rattle.std.proofs.Common.{sym}
use Rattle.parameters.proofs.NoiseBound.{modulus_capped}
use Rattle.parameters.proofs.tests.modulus_fits.Goals as goal

pub returns : goal.returns
returns c = rw c.capped_bound.ensures (sym (modulus_capped _))

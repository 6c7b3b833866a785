-- `multiply_add_exact` compares each length with n, as `multiply_add_exact` does.
-- Assumes nothing.
use Rattle.std.proofs.Common.{refl}
use Rattle.definitions.specs.MultiplyAdd.{multiply_add_exact}
use Rattle.lengths.proofs.multiply_add_exact.Goals as goal

pub returns : goal.returns
unfolding multiply_add_exact
returns c = refl

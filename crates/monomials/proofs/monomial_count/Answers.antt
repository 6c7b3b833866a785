-- `monomial_count` meets its contract: with d at most 4 no step wraps.
-- Assumes nothing.
use Rattle.std.proofs.Common.{refl}
use Rattle.definitions.specs.Parameters.{monomial_count}
use Rattle.monomials.proofs.monomial_count.Goals as goal

pub returns : goal.returns
unfolding monomial_count
returns c = refl

-- `karatsuba::Halving::below` meets its contract, since m is even where there is a level.
-- Assumes nothing.
use Rattle.karatsuba.proofs.Levels.{level_half, level_below}
use Rattle.karatsuba.proofs.Halving.below.Goals as goal

pub invariant_of-result : goal.invariant_of-result
invariant_of-result c = record { halvable = level_below c.args.self.halvable c.requires }

pub returns-clause-half : goal.returns-clause-half
returns-clause-half c = level_half c.args.self.halvable c.requires

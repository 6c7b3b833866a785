-- There are 2^levels leaves, at most 64.
-- Assumes nothing.
use Rattle.std.proofs.Common.{◌-◌}
use Rattle.products.proofs.Halvings.{Leaves}
use Rattle.products.proofs.split.Given as goal

abbrev pub invariant-loop-leaves : goal.invariant-loop-leaves
invariant-loop-leaves l = Leaves l.levels l.leaves

abbrev pub decreases-loop-leaves : goal.decreases-loop-leaves
decreases-loop-leaves l = 6 - l.levels

-- `unpacking::spread_groups` is right because a turn puts the rows of its group behind those of the groups before, and keeps the groups to come.
-- Assumes nothing.
use Rattle.std.proofs.Common.{◌*◌}
use Rattle.unpacking.specs.Lanes.{groups_of}
use Rattle.unpacking.proofs.Lanes.{NewTo}
use Rattle.unpacking.proofs.spread_groups.Given as goal

abbrev pub invariant-loop-g : goal.invariant-loop-g
invariant-loop-g l = NewTo (l.g * (l.many * 8)) (groups_of l.b l.many l.g l.initial.words) l.initial.words l.words

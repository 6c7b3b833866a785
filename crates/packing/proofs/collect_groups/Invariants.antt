-- `packing::collect_groups` is right because a turn puts the four sums of a group behind those of the groups before.
-- Assumes nothing.
use Rattle.std.proofs.Common.{◌≡◌, ℕ, ◌+◌, ◌*◌, ◌<◌}
use Rattle.packing.specs.Lanes.{lane_number, group_number}
use Rattle.packing.proofs.collect_groups.Given as goal

abbrev pub invariant-loop-g : goal.invariant-loop-g
invariant-loop-g l = (k : ℕ) → k < l.g → lane_number l.b l.lanes k ≡ group_number l.b (l.many * 8) l.words (l.start + k)

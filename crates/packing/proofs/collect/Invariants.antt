-- `packing::collect` is right because a turn adds one coefficient to each of the four sums, and 32 bits hold all of them together.
-- Assumes nothing.
use Rattle.std.proofs.Common.{◌≡◌}
use Rattle.packing.specs.Lanes.{lane_from}
use Rattle.packing.proofs.collect.Given as goal

abbrev pub invariant-loop-j : goal.invariant-loop-j
invariant-loop-j l =
    (l.first ≡ lane_from l.b l.j 0 l.words) × (l.second ≡ lane_from l.b l.j 1 l.words)
    × (l.third ≡ lane_from l.b l.j 2 l.words) × (l.fourth ≡ lane_from l.b l.j 3 l.words)

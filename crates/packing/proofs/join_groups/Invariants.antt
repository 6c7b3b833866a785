-- `packing::join_groups` is right because a turn puts the octets of a group behind those of the groups before.
-- Assumes nothing.
use Rattle.std.proofs.Common.{◌≡◌, ◌++◌, ◌+◌, ◌*◌, take}
use Rattle.definitions.specs.Sequences.{tabulate}
use Rattle.definitions.specs.Octets.{encoded}
use Rattle.packing.specs.Lanes.{lane_number}
use Rattle.packing.proofs.join_groups.Given as goal

abbrev pub invariant-loop-g : goal.invariant-loop-g
invariant-loop-g l =
    take ((l.start + l.g) * (l.many * l.b)) l.octets
    ≡ take (l.start * (l.many * l.b)) l.initial.octets ++ encoded (l.many * l.b) (tabulate l.g (lane_number l.b l.lanes))

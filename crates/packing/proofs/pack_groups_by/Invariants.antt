-- `packing::pack_groups_by` is right because a turn puts the octets of up to 16 groups behind those of the groups before.
-- Assumes nothing.
use Rattle.std.proofs.Common.{◌-◌, ◌≡◌, ◌*◌, ◌/◌, ◌≤◌, length, take}
use Rattle.definitions.specs.Octets.{packed}
use Rattle.packing.proofs.pack_groups_by.Given as goal

abbrev pub invariant-loop-g : goal.invariant-loop-g
invariant-loop-g c l =
    let b = c.row.B in
    (l.g ≤ l.groups) × (length l.lanes ≡ 64) × (take (l.g * (4 / b * b)) l.octets ≡ packed b (l.g * (4 / b * b)) l.words)

abbrev pub decreases-loop-g : goal.decreases-loop-g
decreases-loop-g c l = l.groups - l.g

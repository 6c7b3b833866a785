-- `packing::padding` is right because it looks at each octet from the one that holds bit `used` on: in the first one past the used bits,
-- in the others at all.
-- Assumes nothing.
use Rattle.std.proofs.Common.{◌-◌, ◌≡◌, ◌*◌, ◌/◌, ◌≤◌}
use Rattle.packing.proofs.Unused.{ClearTo}
use Rattle.packing.proofs.padding.Given as goal

abbrev pub invariant-loop-i : goal.invariant-loop-i
invariant-loop-i l = (l.used / 8 ≤ l.i) × (l.shift ≡ l.used - 8 * l.i) × ClearTo l.used l.octets l.i

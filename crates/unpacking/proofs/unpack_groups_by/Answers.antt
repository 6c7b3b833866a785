-- `unpacking::unpack_groups_by` is right because the rows of a group's number and its shifts are its coefficients.
-- Assumes nothing.
use Rattle.std.proofs.Common.{◌/◌, ◌∙◌}
use Rattle.packing.proofs.Groups.{four_over_some}
use Rattle.unpacking.proofs.Lanes.{groups-unpacked}
use Rattle.unpacking.proofs.unpack_groups_by.Goals as goal

pub returns : goal.returns
returns g c =
    let a = c.args in
    let b = g.row.B in
    c.spread_groups.ensures
    ∙ groups-unpacked b (4 / b) a.groups a.octets.now _ c.requires.0 (four_over_some b c.requires.0 c.requires.1) (λ i h. (c.type_inv.octets i).fits)
    c.place_groups.ensures

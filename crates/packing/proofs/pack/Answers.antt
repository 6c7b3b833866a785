-- `packing::pack` is right because whole groups, the last one and zeros are all that there is.
-- Assumes nothing.
use Rattle.std.proofs.Common.{◌+◌, ◌*◌, ◌/◌, ◌≤◌, ◌∙◌, length, take, drop, length-take, ap, arith}
use native.Mathlib.Nat.{mul-le-mul_right, le_trans}
use Rattle.definitions.specs.Octets.{packed}
use Rattle.definitions.proofs.Octets.{coefficients_fit-below}
use Rattle.packing.specs.Fields.{value_in}
use Rattle.packing.proofs.Fields.{parts_whole, take_stored_fields, lent, filled}
use Rattle.packing.proofs.Groups.{group_of, many_last, four_over_fits, four_over_some, groups-within, part_end}
use Rattle.packing.proofs.Shifts.{part_fits}
use Rattle.packing.proofs.pack.Goals as goal

pub gather-requires : goal.gather-requires
gather-requires c =
    let a = c.args in
    let at = c.min-groups.result * (4 / a.b * 8) in
    let count = c.min-count.result in
    let short : length (take count (drop at a.words.now)) ≤ count = omega (arith, length-take count (drop at a.words.now)) in
    rw (lent at count a.words.now) (
      c.requires.0,
      le_trans (mul-le-mul_right a.b short) (many_last a.b _ (four_over_fits a.b) _ c.min-count.ensures),
      part_fits _ at count a.words.now c.requires.2,
    )

pub returns : goal.returns
unfolding packed
returns c =
    let a = c.args in
    let group = group_of a.b (4 / a.b) c.requires.0 (four_over_some a.b c.requires.0 c.requires.1) in
    let kept = c.pack_groups.auto.octets in
    let places : c.min-groups.result * (4 / a.b * a.b) ≤ length c.pack_groups.new.octets
    = rw kept (groups-within c.min-groups.result (length a.octets.now) (4 / a.b * a.b) (omega arith)) in
    let end : c.min-groups.result * (4 / a.b * a.b) + c.min-rest.result ≤ length c.pack_groups.new.octets
    = part_end _ places c.min-rest.ensures in
    let zeros = filled (c.min-groups.result * (4 / a.b * a.b) + c.min-rest.result) c.store.new.octets (rw c.store.auto.octets end) (c.fill.ensures.after (λ y e. e)) in
    parts_whole group _ a.words.now c.min-groups.result c.min-groups.ensures (coefficients_fit-below _ _ c.requires.2) c.min-rest.result
    c.min-count.result (rw kept at c.min-rest.ensures) c.min-count.ensures _ _ c.pack_groups.ensures
    (c.gather.ensures ∙ ap (value_in a.b) (lent _ c.min-count.result a.words.now)) (take_stored_fields _ _ c.gather.result _ end c.store.ensures)
    (c.store.auto.octets ∙ kept) zeros

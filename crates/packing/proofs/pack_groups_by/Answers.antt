-- A turn puts the octets of up to 16 groups behind those of the groups before.
-- Assumes nothing.
use Rattle.std.proofs.Common.{◌+◌, ◌*◌, ◌/◌, refl, arith}
use native.Mathlib.Nat.{zero-mul}
use Rattle.definitions.specs.Sequences.{tabulate}
use Rattle.definitions.specs.Octets.{regrouped, packed}
use Rattle.definitions.proofs.Octets.{coefficients_fit-below}
use Rattle.packing.specs.Lanes.{lane_number}
use Rattle.packing.proofs.Groups.{group_of, four_over_fits, four_over_some}
use Rattle.packing.proofs.Lanes.{groups_step, number_fits}
use Rattle.packing.proofs.pack_groups_by.Goals as goal

pub loop-g-init : goal.loop-g-init
unfolding packed regrouped tabulate
loop-g-init g c = let none = zero-mul (4 / g.row.B * g.row.B) in (omega arith, refl, rw none)

pub join_groups-requires-clause-lanes_fit : goal.join_groups-requires-clause-lanes_fit
join_groups-requires-clause-lanes_fit g c =
    let b = g.row.B in
    λ i inside. number_fits c.args.words.now b (4 / b) (c.loop-g.g + i) c.requires.4 (four_over_fits b) (c.collect_groups.ensures i inside)

pub loop-g-preserved : goal.loop-g-preserved
unfolding packed
loop-g-preserved g c =
    let b = g.row.B in
    let group = group_of b (4 / b) c.requires.0 (four_over_some b c.requires.0 c.requires.1) in (
      omega arith,
      omega arith,
      groups_step group c.args.words.now c.loop-g.g (coefficients_fit-below _ _ c.requires.4) c.loop-g.octets _ _
          (lane_number b c.collect_groups.new.lanes) c.collect_groups.ensures c.loop-g.invariant.2 c.join_groups.ensures,
    )

-- `addition::add_by` is right because each turn stores the octets of its place's sum behind those of the places before it.
-- Assumes nothing.
use Rattle.std.proofs.Common.{arith, ◌≡◌}
use Rattle.definitions.specs.Octets.{coefficient_at}
use Rattle.addition.proofs.Sums.{turn_one, turn_four, sum_below, added_to_none, added_to_step, added_to_end}
use Rattle.addition.proofs.add_by.Goals as goal

pub loop-m-init : goal.loop-m-init
loop-m-init g c = added_to_none c.requires.1

pub sum-requires : goal.sum-requires
unfolding coefficient_at
sum-requires g c = sum_below c.requires.0 c.loop-m.m (omega arith) c.wide_number-x.ensures c.wide_number-y.ensures

pub store-requires : goal.store-requires
store-requires g c = let turn = turn_four c.requires.0 c.loop-m.m (omega arith) in (omega arith, omega (arith, turn.room))

pub loop-m-preserved : goal.loop-m-preserved
unfolding coefficient_at
loop-m-preserved g c =
    added_to_step (turn_four c.requires.0 c.loop-m.m (omega arith)) c.loop-m.invariant
    c.wide_number-x.ensures c.wide_number-y.ensures c.sum.ensures c.store.ensures c.store.auto.octets

pub loop-m-2-init : goal.loop-m-2-init
loop-m-2-init g c =
    let end : c.loop-m.m ≡ c.saturating_sub-wide.result = omega arith in
    rw end at c.loop-m.invariant

pub sum-requires-in-loop-m-2 : goal.sum-requires-in-loop-m-2
unfolding coefficient_at
sum-requires-in-loop-m-2 g c = sum_below c.requires.0 c.loop-m-2.m (omega arith) c.number-x.ensures c.number-y.ensures

pub loop-m-2-preserved : goal.loop-m-2-preserved
unfolding coefficient_at
loop-m-2-preserved g c =
    added_to_step (turn_one c.requires.0 c.loop-m-2.m (omega arith)) c.loop-m-2.invariant
    c.number-x.ensures c.number-y.ensures c.sum-in-loop-m-2.ensures c.store-in-loop-m-2.ensures c.store-in-loop-m-2.auto.octets

pub returns : goal.returns
returns g c =
    let end : c.loop-m-2.m ≡ c.args.count = omega arith in
    added_to_end (rw end at c.loop-m-2.invariant)

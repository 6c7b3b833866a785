-- `addition::add_by` is right because each turn stores the octets of its place's sum behind those of the places before it.
-- Assumes nothing.
use Rattle.addition.proofs.Sums.{AddedTo}
use Rattle.addition.proofs.add_by.Given as goal

abbrev pub invariant-loop-m : goal.invariant-loop-m
invariant-loop-m g l = AddedTo l.q g.row.QLEN l.count l.a l.b l.m l.sum

abbrev pub invariant-loop-m-2 : goal.invariant-loop-m-2
invariant-loop-m-2 g l = AddedTo l.q g.row.QLEN l.count l.a l.b l.m l.sum

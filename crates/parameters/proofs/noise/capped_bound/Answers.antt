-- `capped_bound` meets its contract: the tests that passed give the limits of the numbers, and each turn of the loop is a law of Turn.
-- Assumes nothing.
use Rattle.std.proofs.Common.{sym, arith}
use Rattle.parameters.proofs.Bounds.{Within, ring_fits-within, degree_fits-within}
use Rattle.definitions.proofs.Parameters.{range_least, range_most}
use Rattle.parameters.proofs.NoiseBound.{turn_start, turn_next, capped_past, capped_end}
use Rattle.parameters.proofs.noise.capped_bound.Goals as goal

pub overflow_add-last : goal.overflow_add-last
overflow_add-last c = let both = degree_fits-within _ c.requires.degrees in record { fits = omega arith }

pub overflow_sub-sum : goal.overflow_sub-sum
overflow_sub-sum c = omega (arith, range_least _ c.requires.range)

pub overflow_sub-power : goal.overflow_sub-power
overflow_sub-power c = omega (arith, range_least _ c.requires.range)

pub loop-k-init : goal.loop-k-init
loop-k-init c =
    let both = degree_fits-within _ c.requires.degrees in
    let range : Within 2 16 c.args.set.l = record { least = range_least _ c.requires.range; most = range_most _ c.requires.range } in
    turn_start _ _ _ range (ring_fits-within _ c.requires.ring) (omega arith)

pub returns-then-sum-ge-CAP : goal.returns-then-sum-ge-CAP
returns-then-sum-ge-CAP c = sym (capped_past _ _ _ _ c.loop-k.invariant (omega arith) c.if-sum-ge-CAP.true)

pub loop-k-preserved : goal.loop-k-preserved
loop-k-preserved c = turn_next _ _ _ _ _ _ c.loop-k.invariant (omega arith) c.if-sum-ge-CAP.false

pub returns : goal.returns
returns c = sym (capped_end _ _ _ _ c.loop-k.invariant (omega arith))

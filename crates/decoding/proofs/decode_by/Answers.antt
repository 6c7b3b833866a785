-- Each turn stores the coefficient of its place behind those that are stored.
-- Assumes nothing.
use Rattle.std.proofs.Common.{refl, arith}
use Rattle.definitions.specs.Sequences.{tabulate}
use Rattle.definitions.specs.Octets.{coefficient_at, decoded}
use Rattle.definitions.proofs.Filling.{fill_step}
use Rattle.decoding.proofs.decode_by.Goals as goal

pub loop-m-init : goal.loop-m-init
unfolding decoded tabulate
loop-m-init g c = refl

pub loop-m-preserved : goal.loop-m-preserved
unfolding decoded coefficient_at
loop-m-preserved g c = fill_step _ c.loop-m.words c.loop-m.m (omega arith) c.wide_number.ensures c.loop-m.invariant

pub loop-k-preserved : goal.loop-k-preserved
unfolding decoded coefficient_at
loop-k-preserved g c = fill_step _ c.loop-k.words c.loop-k.k (omega arith) c.number.ensures c.loop-k.invariant

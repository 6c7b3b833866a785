-- `judging::several_fit` is right because after each coefficient `fit` tells whether all up to it are below q.
-- Assumes nothing.
use Rattle.std.proofs.Common.{sym, arith, ◌≡◌}
use Rattle.definitions.specs.Octets.{coefficient_at}
use Rattle.judging.proofs.Laws.{several_none, several_next}
use Rattle.judging.proofs.several_fit.Goals as goal

pub loop-k-init : goal.loop-k-init
loop-k-init g c = sym (several_none c.args.q g.row.QLEN c.args.octets.now c.args.m)

pub loop-k-preserved : goal.loop-k-preserved
unfolding coefficient_at
loop-k-preserved g c =
    rw (c.loop-k.invariant, c.wide_number.ensures) (sym (several_next c.args.q g.row.QLEN c.args.octets.now c.args.m c.loop-k.k))

pub returns : goal.returns
returns g c =
    let end : c.loop-k.k ≡ 64 = omega arith in
    rw end at c.loop-k.invariant

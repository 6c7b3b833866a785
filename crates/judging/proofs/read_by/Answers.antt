-- `judging::read_by` is right because the words before each place are the coefficients, which fit, and one that does not fit settles the answer.
-- Assumes nothing.
use Rattle.std.proofs.Common.{refl, arith, ◌≡◌, length}
use Rattle.definitions.specs.Sequences.{tabulate}
use Rattle.definitions.specs.Octets.{coefficient_at, decoded}
use Rattle.definitions.proofs.Filling.{fill_step}
use Rattle.judging.proofs.Laws.{fit_number-zero, reading_below, reading_fits, reading_large, octets_none}
use Rattle.judging.proofs.read_by.Goals as goal

pub loop-m-init : goal.loop-m-init
unfolding decoded tabulate
loop-m-init g c = record { filled = refl; fits = octets_none c.args.q g.row.QLEN c.args.octets.now }

pub returns-in_default-clause-judged : goal.returns-in_default-clause-judged
returns-in_default-clause-judged g c =
    reading_large c.args.q g.row.QLEN c.args.octets.now c.loop-m.m c.coefficient_at.ensures c.in_default.is (omega arith)

pub loop-m-preserved : goal.loop-m-preserved
unfolding decoded
loop-m-preserved g c =
    let a = c.args in
    let l = c.loop-m in
    let below = reading_below a.q g.row.QLEN a.octets.now l.m c.coefficient_at.ensures c.in-Some.is in
    record {
      filled = fill_step (coefficient_at g.row.QLEN a.octets.now) l.words l.m (omega arith) below l.invariant.filled;
      fits = reading_fits a.q g.row.QLEN a.octets.now l.m c.coefficient_at.ensures c.in-Some.is l.invariant.fits;
    }

pub returns-clause-judged : goal.returns-clause-judged
returns-clause-judged g c =
    let end : c.loop-m.m ≡ length c.args.words.now = omega arith in
    rw (← end) (fit_number-zero c.args.q _ c.loop-m.invariant.fits)

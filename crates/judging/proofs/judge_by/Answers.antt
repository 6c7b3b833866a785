-- `judging::judge_by` is right because the coefficients before each place fit, and several or one that do not fit settle the answer.
-- Assumes nothing.
use Rattle.std.proofs.Common.{◌≡◌, ◌≤◌, ◌+◌, ◌*◌, ◌/◌, length, sym, arith}
use Rattle.std.proofs.lemmas.Result.{err_from_is_err_and}
use Rattle.definitions.specs.Octets.{decoded, coefficients_fit}
use Rattle.parameters.proofs.Answers.{refusal-some}
use Rattle.judging.specs.Reading.{fit_number}
use Rattle.judging.proofs.Judged.{number_fits, number_same}
use Rattle.judging.proofs.Laws.{fit_number-zero, reading_fits, reading_large, octets_none, octets_more, several_spoiled, several_inside, several_count}
use Rattle.judging.proofs.judge_by.Goals as goal

pub loop-turn-init : goal.loop-turn-init
loop-turn-init g c = octets_none c.args.q g.row.QLEN c.args.octets.now

pub several_fit-requires : goal.several_fit-requires
several_fit-requires g c =
    let more = rw c.saturating_sub.ensures at c.loop-turn-test.true in
    (c.requires.0, c.requires.1, several_inside g.row.QLEN (length c.args.octets.now) c.requires.0 c.requires.1 c.loop-turn.turn more)

pub returns-in_err-refuse_unless : goal.returns-in_err-refuse_unless
unfolding fit_number
returns-in_err-refuse_unless g c =
    let a = c.args in
    let more = rw c.saturating_sub.ensures at c.loop-turn-test.true in
    let inside : (c.loop-turn.turn + 1) * 64 ≤ length a.octets.now / g.row.QLEN = several_count g.row.QLEN (length a.octets.now) c.requires.0 c.requires.1 (c.loop-turn.turn + 1) (omega (arith, more)) in
    let same = err_from_is_err_and c.from_residual.result c.from_residual.ensures.1 in
    rw (same.1, same.2)
    (number_same _ (coefficients_fit a.q (decoded g.row.QLEN (length a.octets.now / g.row.QLEN) a.octets.now)) (rw c.several_fit.ensures at c.in_err-refuse_unless.ensures) (refusal-some _)
    (several_spoiled a.q g.row.QLEN a.octets.now (c.loop-turn.turn * 64) 64 (omega (arith, inside))))

pub loop-turn-preserved : goal.loop-turn-preserved
loop-turn-preserved g c =
    let a = c.args in
    let fits = number_fits _ (sym (rw c.several_fit.ensures at c.in_ok-refuse_unless.ensures)) in
    let next : (c.loop-turn.turn + 1) * 64 ≡ c.loop-turn.turn * 64 + 64 = omega arith in
    rw next (octets_more a.q g.row.QLEN a.octets.now (c.loop-turn.turn * 64) 64 c.loop-turn.invariant fits)

pub loop-m-init : goal.loop-m-init
loop-m-init g c =
    let end : c.loop-turn.turn ≡ c.saturating_sub.result / (64 * g.row.QLEN) = omega arith in
    rw end at c.loop-turn.invariant

pub returns-in_default : goal.returns-in_default
returns-in_default g c =
    reading_large c.args.q g.row.QLEN c.args.octets.now c.loop-m.m c.coefficient_at.ensures c.in_default.is (omega arith)

pub loop-m-preserved : goal.loop-m-preserved
loop-m-preserved g c =
    reading_fits c.args.q g.row.QLEN c.args.octets.now c.loop-m.m c.coefficient_at.ensures c.in-Some.is c.loop-m.invariant

pub returns : goal.returns
returns g c =
    let a = c.args in
    let most = several_count g.row.QLEN (length a.octets.now) c.requires.0 c.requires.1 (c.saturating_sub.result / (64 * g.row.QLEN)) (rw c.saturating_sub.ensures (omega arith)) in
    let end : c.loop-m.m ≡ length a.octets.now / g.row.QLEN = omega (arith, most) in
    fit_number-zero a.q _ (rw end at c.loop-m.invariant)

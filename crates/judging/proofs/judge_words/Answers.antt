-- `judging::judge_words` is right because the words before each turn fit, several that do not fit settle the answer, and the rest is judged behind them.
-- Assumes nothing.
use Rattle.std.proofs.Common.{◌≡◌, ◌+◌, ◌-◌, ◌*◌, ◌/◌, length, sym, ap, ◌∙◌, arith}
use Rattle.std.proofs.lemmas.Result.{err_from_is_err_and}
use Rattle.definitions.specs.Octets.{coefficients_fit}
use Rattle.parameters.proofs.Answers.{refusal-some}
use Rattle.judging.specs.Reading.{coefficient_number, fit_number}
use Rattle.judging.proofs.Judged.{number_fits, number_same}
use Rattle.judging.proofs.Laws.{coefficients_fit_none, words_more, words_spoiled, words_rest}
use Rattle.judging.proofs.judge_words.Goals as goal

pub loop-turn-init : goal.loop-turn-init
loop-turn-init c = coefficients_fit_none c.args.q

pub returns-in_err-refuse_unless : goal.returns-in_err-refuse_unless
unfolding fit_number
returns-in_err-refuse_unless c =
    let m = c.loop-turn.turn * 32 in
    let same = err_from_is_err_and c.from_residual.result c.from_residual.ensures.1 in
    rw (same.1, same.2)
    (number_same _ (coefficients_fit c.args.q c.args.words.now) (rw c.words_fit.ensures at c.in_err-refuse_unless.ensures) (refusal-some _)
    (words_spoiled c.args.q c.args.words.now m (m + 32 - m)))

pub loop-turn-preserved : goal.loop-turn-preserved
loop-turn-preserved c =
    let m = c.loop-turn.turn * 32 in
    let fits = number_fits _ (sym (rw c.words_fit.ensures at c.in_ok-refuse_unless.ensures)) in
    let next : (c.loop-turn.turn + 1) * 32 ≡ m + (m + 32 - m) = omega arith in
    rw next (words_more c.args.q c.args.words.now m (m + 32 - m) c.loop-turn.invariant fits)

pub returns : goal.returns
unfolding fit_number
returns c =
    let end : c.loop-turn.turn ≡ length c.args.words.now / 32 = omega arith in
    c.refuse_unless-2.ensures
    ∙ ap coefficient_number (c.words_fit-2.ensures ∙ words_rest c.args.q c.args.words.now _ (rw end at c.loop-turn.invariant))

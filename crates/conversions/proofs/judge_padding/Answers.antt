-- `conversions::judge_padding` is right because the elements before each have clear unused bits, and one that has not settles the answer.
-- Assumes nothing.
use Rattle.std.proofs.Common.{refl, sym, arith, ◌≡◌}
use Rattle.std.proofs.lemmas.Result.{err_from_is_err_and}
use Rattle.definitions.specs.Sequences.{every}
use Rattle.definitions.proofs.Refusals.{first_refusal_last}
use Rattle.parameters.proofs.Answers.{refusal-some}
use Rattle.conversions.proofs.Parts.{padding_refused, padding_passed}
use Rattle.conversions.proofs.judge_padding.Goals as goal

pub loop-i-init : goal.loop-i-init
unfolding every
loop-i-init c = refl

pub returns-in_err-padding : goal.returns-in_err-padding
returns-in_err-padding c =
    let same = err_from_is_err_and c.from_residual.result c.from_residual.ensures.1 in
    let refused = padding_refused _ _ c.args.octets.now c.loop-i.i c.in_err-padding.ensures c.loop-i-test.true (refusal-some _) in
    rw (same.1, same.2, ← c.small_length-len.ensures, ← c.bits.ensures) refused

pub loop-i-preserved : goal.loop-i-preserved
loop-i-preserved c = padding_passed _ _ c.args.octets.now c.loop-i.i c.in_ok-padding.ensures refl c.loop-i.invariant

pub returns : goal.returns
returns c =
    let end : c.loop-i.i ≡ c.args.elements = omega arith in
    let clear = rw (end, c.small_length-len.ensures, c.bits.ensures) at c.loop-i.invariant in
    sym (first_refusal_last 7 _ (rw clear))

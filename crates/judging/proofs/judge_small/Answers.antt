-- `judging::judge_small` is right because each turn adds the bits of its word: bits together are below a power of two just where both parts are.
-- Assumes nothing.
use Rattle.std.proofs.Common.{ap, ◌∙◌, arith}
use lib.Seq.{take_all}
use Rattle.definitions.proofs.Powers.{shl_one}
use Rattle.judging.specs.Reading.{coefficient_number, fit_number}
use Rattle.judging.proofs.Laws.{bits_none, bits_step}
use Rattle.judging.proofs.judge_small.Goals as goal

pub loop-word-init : goal.loop-word-init
loop-word-init c = bits_none c.args.b

pub loop-word-preserved : goal.loop-word-preserved
loop-word-preserved c = bits_step c.args.b c.loop-word.bits c.args.words.now c.loop-word.word-index c.loop-word-test.true c.loop-word.invariant

pub returns : goal.returns
unfolding fit_number
returns c =
    let all = rw (take_all c.loop-word.word-index c.args.words.now (omega arith)) at c.loop-word.invariant in
    rw (shl_one c.args.b 32 (omega (arith, c.requires))) at c.refuse_unless.ensures ∙ ap coefficient_number all

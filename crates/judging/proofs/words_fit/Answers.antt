-- `judging::words_fit` is right because after each word `fit` tells whether all up to it are below q.
-- Assumes nothing.
use Rattle.std.proofs.Common.{sym, arith}
use lib.Seq.{take_all}
use Rattle.judging.proofs.Laws.{coefficients_fit_none, words_next}
use Rattle.judging.proofs.words_fit.Goals as goal

pub loop-word-init : goal.loop-word-init
loop-word-init c = sym (coefficients_fit_none c.args.q)

pub loop-word-preserved : goal.loop-word-preserved
loop-word-preserved c =
    rw c.loop-word.invariant (sym (words_next c.args.q c.args.words.now c.loop-word.word-index c.loop-word-test.true))

pub returns : goal.returns
returns c = rw (take_all c.loop-word.word-index c.args.words.now (omega arith)) at c.loop-word.invariant

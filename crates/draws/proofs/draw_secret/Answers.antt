-- Each element before the place was dropped, and it stops at one of degree n - 1 or where no group is left. Assumes nothing.
use Rattle.std.proofs.Common.{◌∙◌, arith}
use Rattle.std.proofs.lemmas.List.{take_rest}
use Rattle.draws.proofs.Secrets.{settling_kept, settling_dropped, settling_exhausted}
use Rattle.draws.proofs.draw_secret.Goals as goal

pub returns-then-words-top-ne0 : goal.returns-then-words-top-ne0
returns-then-words-top-ne0 c =
    settling_kept _ _ c.requires.1 _ c.loop-k.invariant.1 (rw c.small_length-one.ensures at c.loop-k-test.true)
    (rw (take_rest, c.small_length-one.ensures) at c.draw_small.ensures) (λ e. omega arith)

pub loop-k-preserved : goal.loop-k-preserved
loop-k-preserved c = (
  c.draw_small.auto.words ∙ c.loop-k.invariant.0,
  settling_dropped _ _ c.requires.1 _ c.loop-k.invariant.1 (rw c.small_length-one.ensures at c.loop-k-test.true)
      (rw (take_rest, c.small_length-one.ensures) at c.draw_small.ensures) (omega arith),
)

pub returns : goal.returns
returns c =
    settling_exhausted _ _ c.requires.1 _ c.loop-k.invariant.1 (rw c.small_length-one.ensures at c.loop-k-test.false)

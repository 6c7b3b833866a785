-- A line too long, a field that is no number, and more fields than there is room for are told None; the last field tells how many there are.
-- Assumes nothing.
use Rattle.std.proofs.Common.{arith}
use Rattle.roomsheet_parse.proofs.Fields.{long_read, progress_over, progress_spoiled, progress_end, progress_next}
use Rattle.roomsheet_parse.proofs.parse_numbers.Goals as goal

pub returns-then-line-gt-LINE_MOST : goal.returns-then-line-gt-LINE_MOST
returns-then-line-gt-LINE_MOST c = λ n room. long_read _ c.if-line-gt-LINE_MOST.true n

pub returns-in_err-value : goal.returns-in_err-value
returns-in_err-value c =
    rw c.from_residual.ensures (λ n room. progress_spoiled _ _ _ _ _ c.loop-count.invariant c.in_err-value.ensures n)

pub returns-then-next-line : goal.returns-then-next-line
returns-then-next-line c =
    progress_end _ _ _ _ _ c.loop-count.invariant (omega (arith, c.loop-count.invariant.kept)) _ c.in_ok-value.ensures c.if-next-line.true

pub loop-count-preserved : goal.loop-count-preserved
loop-count-preserved c =
    progress_next _ _ _ _ _ c.loop-count.invariant (omega (arith, c.loop-count.invariant.kept)) _ c.in_ok-value.ensures c.if-next-line.false

pub overflow_add-at : goal.overflow_add-at
overflow_add-at c =
    let more = progress_next _ _ _ _ _ c.loop-count.invariant (omega (arith, c.loop-count.invariant.kept)) _ c.in_ok-value.ensures c.if-next-line.false in
    omega (arith, more.within, more.short)

pub returns : goal.returns
returns c = progress_over _ _ _ _ _ c.loop-count.invariant (omega (arith, c.loop-count.invariant.kept))

-- A line that ends is answered and the place moves behind its newline; without one, or with too little room, it stops.
-- Assumes nothing.
use Rattle.std.proofs.Common.{arith, rules, ◌∙◌}
use Rattle.roomsheet_lines.proofs.Buffers.{end_le, answering_start, answering_done, answering_next, length_written, stopped_done, stopped_full}
use Rattle.roomsheet_lines.proofs.answer_lines.Goals as goal

pub loop-end-init : goal.loop-end-init
loop-end-init c = answering_start _ _ c.new-answers.ensures.none

pub returns-then-end-text : goal.returns-then-end-text
returns-then-end-text c =
    let name = c.loop-end.invariant.same_reference ∙ c.new-answers.ensures.same_reference in
    stopped_done _ _ _ _ c.loop-end.invariant _ (length_written c.loop-end.answers _ c.written.ensures) _ (search rules)
    (answering_done _ _ _ _ c.loop-end.invariant _ c.find_newline-end.ensures c.if-end-text.true)

pub slice_bounds-answer_line-end : goal.slice_bounds-answer_line-end
slice_bounds-answer_line-end c = end_le _ _ _ _ c.loop-end.invariant _ c.find_newline-end.ensures

pub loop-end-preserved : goal.loop-end-preserved
loop-end-preserved c =
    answering_next _ _ _ _ c.loop-end.invariant _ c.find_newline-end.ensures c.if-end-text.false _ (omega arith) c.answer_line.ensures

pub returns : goal.returns
returns c =
    let name = c.loop-end.invariant.same_reference ∙ c.new-answers.ensures.same_reference in
    stopped_full _ _ _ _ c.loop-end.invariant _ (length_written c.loop-end.answers _ c.written-2.ensures) _ (search rules) (omega arith)

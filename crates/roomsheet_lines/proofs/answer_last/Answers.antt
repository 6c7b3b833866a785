-- `answer_last` meets its contract: a last line that is not empty is answered as an ended one, and nothing stands behind it.
-- Assumes nothing.
use Rattle.std.proofs.Common.{rules, sym, ◌∙◌}
use Rattle.roomsheet_lines.proofs.Texts.{roomsheet_none}
use Rattle.roomsheet_lines.proofs.Buffers.{last_answered}
use Rattle.roomsheet_lines.proofs.answer_last.Goals as goal

pub returns-then-is_empty-clause-answered : goal.returns-then-is_empty-clause-answered
returns-then-is_empty-clause-answered c = sym (roomsheet_none _ (search rules))

pub returns-clause-answered : goal.returns-clause-answered
returns-clause-answered c =
    let name = c.answer_line.ensures.same_reference ∙ c.new-answers.ensures.same_reference in
    last_answered _ _ _ c.new-answers.ensures.none c.answer_line.ensures (search rules) c.requires.without _ _ c.written.ensures (search rules)

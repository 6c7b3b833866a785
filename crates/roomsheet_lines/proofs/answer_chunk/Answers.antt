-- `answer_chunk` meets its contract: the lines answered are those of the text in front, and what is moved there stands for the rest.
-- Assumes nothing.
use Rattle.roomsheet_lines.proofs.Buffers.{chunk-answered}
use Rattle.roomsheet_lines.proofs.answer_chunk.Goals as goal

pub returns : goal.returns
returns c = chunk-answered _ _ c.requires _ _ c.answer_lines-used.ensures _ c.kept_of-kept.ensures _ c.copy_within.ensures.after

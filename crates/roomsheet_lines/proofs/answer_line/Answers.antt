-- `answer_line` meets its contract: the answer, then a newline behind it.
-- Assumes nothing.
use Rattle.std.proofs.Common.{arith}
use Rattle.roomsheet_lines.proofs.Texts.{line_answer-le}
use Rattle.roomsheet_lines.proofs.answer_line.Goals as goal

pub put_octet-requires : goal.put_octet-requires
put_octet-requires c = omega (arith, line_answer-le c.args.line.now)

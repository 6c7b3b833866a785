-- `answer_lines` meets its contract: at each turn the lines up to used are answered, and the next one ends at the newline found.
-- Assumes nothing.
use Rattle.std.proofs.Common.{◌-◌, length}
use Rattle.roomsheet_lines.proofs.Buffers.{Answering}
use Rattle.roomsheet_lines.proofs.answer_lines.Given as goal

abbrev pub invariant-loop-end : goal.invariant-loop-end
invariant-loop-end l = Answering l.text l.initial.answers l.answers l.used

abbrev pub decreases-loop-end : goal.decreases-loop-end
decreases-loop-end l = length l.text - l.used

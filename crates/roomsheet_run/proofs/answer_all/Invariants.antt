-- `answer_all` meets its contract: each turn keeps fewer octets, until no ended line is left among them, and what was written answers the rest.
-- Assumes nothing.
use Rattle.std.proofs.Common.{◌≡◌, ◌≤◌, length, take, false}
use Rattle.roomsheet_run.specs.Kept.{AnsweredInto}
use Rattle.roomsheet_run.proofs.answer_all.Given as goal

abbrev pub invariant-loop-have : goal.invariant-loop-have
invariant-loop-have g l =
    record {
      within : l.have ≤ length l.input;
      from : l.streams.from ≡ l.fn.streams.from;
      answered : l.streams.failed ≡ false
          → (l.fn.streams.failed ≡ false)
          × AnsweredInto (take l.fn.have l.fn.input) (g.W.Write.contents l.fn.streams.to) (g.W.Write.contents l.streams.to) (take l.have l.input);
    }

abbrev pub decreases-loop-have : goal.decreases-loop-have
decreases-loop-have g l = l.have

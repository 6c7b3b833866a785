-- The last line is answered behind all others.
-- Assumes nothing.
use Rattle.roomsheet_run.proofs.Runs.{into_last}
use Rattle.roomsheet_run.proofs.run.Goals as goal

pub returns : goal.returns
returns g c = λ well.
    let w = c.write.ensures.written well in
    into_last _ _ _ _ _ (c.read_all-kept.ensures.answered w.0) (rw c.answer_last-written.ensures.answered at w.1)

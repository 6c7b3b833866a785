-- A chunk's answers go behind those before.
-- Assumes nothing.
use Rattle.std.proofs.Common.{rules}
use Rattle.roomsheet_run.proofs.Runs.{into_written}
use Rattle.roomsheet_run.proofs.answer_all.Goals as goal

pub returns-then-chunk-clause-answered : goal.returns-then-chunk-clause-answered
returns-then-chunk-clause-answered g c = λ well.
    let w = c.write.ensures.written well in
    let b = c.loop-have.invariant.answered w.0 in
    (b.0, into_written _ _ _ _ _ _ b.1 _ c.answer_chunk-chunk.ensures.answered w.1)

pub loop-have-preserved : goal.loop-have-preserved
loop-have-preserved g c =
    record {
      within = search rules;
      from = search rules;
      answered = λ well.
          let w = c.write.ensures.written well in
          let b = c.loop-have.invariant.answered w.0 in
          (b.0, into_written _ _ _ _ _ _ b.1 _ c.answer_chunk-chunk.ensures.answered w.1);
    }

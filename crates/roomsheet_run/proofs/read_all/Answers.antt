-- A turn reads behind what is kept and answers the lines ended; a read that brings nothing leaves what is kept.
-- Assumes nothing.
use Rattle.std.proofs.Common.{ap}
use Rattle.roomsheet_run.proofs.Runs.{read_front, going_start, going_turn, kept_start}
use Rattle.roomsheet_run.proofs.read_all.Goals as goal

pub loop-init : goal.loop-init
loop-init g c = record { line = kept_start _; going = λ well. going_start _ _ }

pub loop-preserved : goal.loop-preserved
loop-preserved g c =
    record {
      line = c.answer_all-kept.ensures.kept;
      going = λ well.
          let a = c.answer_all-kept.ensures.answered well in
          let r = c.read_some-more.ensures.read a.0 in
          going_turn _ _ _ _ _ _ _ _ _ _ _ _ (c.loop.invariant.going r.0) r.1 (read_front _ _ _ _ c.read_some-more.ensures.kept)
          (ap g.W.Write.contents c.read_some-more.ensures.to) a.1 (ap g.R.Read.remaining c.answer_all-kept.ensures.from);
    }

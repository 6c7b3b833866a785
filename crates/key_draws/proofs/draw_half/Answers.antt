-- `draw_half` is right because the draw is lent just the words from its place on.
-- Assumes nothing.
use Rattle.std.proofs.Common.{◌+◌, ◌∙◌, arith}
use borrow.Rule.Slice.PartMut.{mid_len}
use Rattle.definitions.proofs.Parameters.{Accepted, accepted-set, small_length-least}
use Rattle.parameters.specs.Answers.{set_from}
use Rattle.key_draws.proofs.Words.{half_drawn}
use Rattle.key_draws.proofs.draw_half.Goals as goal

pub draw_secret-requires : goal.draw_secret-requires
draw_secret-requires c =
    let a : Accepted (set_from c.args.p) = accepted-set _ c.args.p.accepted in
    (omega (arith, a.ring_least), small_length-least _ a, mid_len c.args.at (c.args.at + c.args.p.set.n) c.args.work.now c.requires ∙ omega arith)

pub returns-clause-drawn : goal.returns-clause-drawn
returns-clause-drawn c =
    (half_drawn (set_from c.args.p) c.args.work.now _ c.draw_secret.result _ c.args.at c.requires c.draw_secret.auto.words c.draw_secret.ensures).0

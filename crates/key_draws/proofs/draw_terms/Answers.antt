-- `draw_terms` is right because the run is lent just the words for the key, behind those of u_x and u_y.
-- Assumes nothing.
use Rattle.std.proofs.Common.{arith}
use Rattle.definitions.proofs.Parameters.{Accepted, accepted-set, modulus_positive}
use Rattle.parameters.specs.Answers.{set_from}
use Rattle.key_draws.proofs.Words.{terms_drawn}
use Rattle.key_draws.proofs.draw_terms.Goals as goal

pub draw_below-requires : goal.draw_below-requires
draw_below-requires c =
    let a : Accepted (set_from c.args.p) = accepted-set _ c.args.p.accepted in
    (modulus_positive _ a, omega (arith, a.modulus-most))

pub returns-clause-drawn : goal.returns-clause-drawn
returns-clause-drawn c =
    (terms_drawn (set_from c.args.p) c.args.random.now c.args.work.now c.draw_below.new.words c.draw_below.result
    c.drawn_end-stop.ensures.0 (omega (arith, c.requires, c.drawn_end-stop.ensures.1)) c.draw_below.auto.words c.draw_below.ensures).0

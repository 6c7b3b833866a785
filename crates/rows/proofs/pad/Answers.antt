-- `rows::pad` meets its contract: a turn writes the coefficient of its place after the seven zeros.
-- Assumes nothing.
use Rattle.std.proofs.Common.{ℕ, length, refl, ap, ◌∙◌, arith}
use lib.ListN.{length-replicate}
use Rattle.ring.specs.Work.{written}
use Rattle.ring.proofs.Work.{writing_none, writing_more, writing_all}
use Rattle.rows.proofs.Rows.{surrounded-written}
use Rattle.rows.proofs.pad.Goals as goal

pub loop-k-init : goal.loop-k-init
loop-k-init c = writing_none (omega (arith, ap length c.requires.1 ∙ length-replicate {A = ℕ} 96 0))

pub loop-k-preserved : goal.loop-k-preserved
loop-k-preserved c = writing_more c.loop-k.invariant refl (omega arith) refl

pub returns : goal.returns
returns c = surrounded-written (length c.args.b.now) _ c.requires.0 (writing_all c.loop-k.invariant (omega arith) ∙ ap (written 7 _) c.requires.1)

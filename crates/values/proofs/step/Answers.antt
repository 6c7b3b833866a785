-- `step` adds the product to the next element, where there is one, and keeps the sum in its part.
-- Assumes nothing.
use Rattle.std.proofs.Common.{◌∙◌, inl, inr}
use Rattle.values.proofs.Loops.{Added, step_placed}
use Rattle.values.proofs.step.Goals as goal
use Rattle.values.proofs.step.Goals.{Joined-count-gt0, then-count-gt0, else-count-gt0}

added : (c : Joined-count-gt0) → let a = c.args in
    Added a.n a.q a.count a.at a.factor a.next a.work.now c.if-count-gt0.work
added c = record {
  came = elim c.if-count-gt0.branch [
    | then-count-gt0 w ↦ inl (w.if-count-gt0.true, w.work-is ∙ w.multiply_add.ensures.added)
    | else-count-gt0 w ↦ inr (w.if-count-gt0.false, w.work-is)
  ];
}

pub returns : goal.returns
returns c =
    let p = c.requires.n_bound in
    step_placed p.2 (added (goal.at.returns c).Joined-count-gt0) p.1 c.copy.ensures

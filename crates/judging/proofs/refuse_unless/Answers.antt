-- `judging::refuse_unless` makes the test of the definition.
-- Assumes nothing.
use Rattle.definitions.specs.Refusals.{first_refusal}
use Rattle.judging.proofs.refuse_unless.Goals as goal

pub returns-then-fit : goal.returns-then-fit
unfolding first_refusal
returns-then-fit c = rw c.if-fit.true

pub returns-else-fit : goal.returns-else-fit
unfolding first_refusal
returns-else-fit c = rw c.if-fit.false

-- `judging::coefficient_at` reads the number of the octets at m × qlen, which is the coefficient at m, and makes the test of the definition.
-- Assumes nothing.
use borrow.Author.Tests.{lt-ltb, le-ltb}
use Rattle.definitions.specs.Octets.{coefficient_at}
use Rattle.definitions.specs.Refusals.{first_refusal, answer}
use Rattle.judging.specs.Reading.{coefficient_answer}
use Rattle.judging.proofs.coefficient_at.Goals as goal

pub returns-then-x-q : goal.returns-then-x-q
unfolding coefficient_at coefficient_answer answer first_refusal
returns-then-x-q c = rw (← c.number-x.ensures, lt-ltb _ _ c.if-x-q.true)

pub returns-else-x-q : goal.returns-else-x-q
unfolding coefficient_at coefficient_answer answer first_refusal
returns-else-x-q c = rw (← c.number-x.ensures, le-ltb _ _ c.if-x-q.false)

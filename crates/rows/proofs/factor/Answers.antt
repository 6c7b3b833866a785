-- `rows::factor` meets its contract: it tests what `padded` tests.
-- Assumes nothing.
use borrow.Author.Tests.{lt-ltb, le-ltb}
use Rattle.rows.specs.Rows.{padded}
use Rattle.rows.proofs.factor.Goals as goal

pub returns-then-i-a : goal.returns-then-i-a
unfolding padded
returns-then-i-a c = simp (lt-ltb _ _ c.if-i-a.true)

pub returns-else-i-a : goal.returns-else-i-a
unfolding padded
returns-else-i-a c = simp (le-ltb _ _ c.if-i-a.false)

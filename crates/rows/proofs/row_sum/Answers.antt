-- `rows::row_sum` meets its contract: it multiplies what `row_sum` multiplies.
-- Assumes nothing.
use Rattle.rows.specs.Rows.{row_sum}
use Rattle.rows.proofs.row_sum.Goals as goal

pub returns : goal.returns
unfolding row_sum
returns c = c.products.ensures

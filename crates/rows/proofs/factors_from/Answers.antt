-- `rows::factors_from` meets its contract: each factor is `factor` at its row.
-- Assumes nothing.
use Rattle.rows.specs.Rows.{factors_from}
use Rattle.rows.proofs.factors_from.Goals as goal

pub returns : goal.returns
unfolding factors_from
returns c = rw (c.factor-4.ensures, c.factor-3.ensures, c.factor-2.ensures, c.factor.ensures)

-- `rows::multiply_uncut` meets its contract: the rows sum to the product, which is then reduced.
-- Assumes nothing.
use Rattle.std.proofs.Common.{◌+◌}
use Rattle.rows.proofs.Rows.{reduced_lent}
use Rattle.rows.proofs.multiply_uncut.Goals as goal

pub returns : goal.returns
returns c =
    let a = c.args in
    reduced_lent a.at (a.m + a.m) a.modulus.q a.words.now c.requires.leaf.0.room c.sums.ensures c.reduce.ensures

-- `reduction::high_half` meets its contract: the low product carries into the first middle one, whose low part goes on to the second.
-- Assumes nothing.
use Rattle.std.proofs.Common.{arith, sym}
use Rattle.reduction.proofs.Laws.{product_high}
use Rattle.reduction.proofs.high_half.Goals as goal

pub returns : goal.returns
returns c = sym (product_high 4294967296 c.args.a c.args.b (omega arith))

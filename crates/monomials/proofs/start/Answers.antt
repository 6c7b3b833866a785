-- `monomials::start` meets its contract: the rule of the starts is a test at each of the five, which is computed.
-- Assumes nothing.
use Rattle.std.proofs.Common.{arith}
use Rattle.monomials.proofs.Table.{start_at}
use Rattle.monomials.proofs.start.Goals as goal

pub returns : goal.returns
returns c = start_at c.args.d (omega arith)

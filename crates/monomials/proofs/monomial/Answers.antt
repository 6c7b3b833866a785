-- `monomials::monomial` meets its contract: the rule of the table is a test at each place of each list, which is computed.
-- Assumes nothing.
use Rattle.std.proofs.Common.{arith}
use Rattle.monomials.proofs.Table.{pair_at}
use Rattle.monomials.proofs.monomial.Goals as goal

pub returns : goal.returns
returns c = pair_at c.start.result c.args.d c.args.i c.start.ensures (omega arith) c.requires.1

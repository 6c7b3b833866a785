-- `products::split` meets its contract: the leaves are doubled until n coefficients need no more than 80 in each.
-- Assumes nothing.
use Rattle.std.proofs.Common.{arith}
use Rattle.products.proofs.Halvings.{leaves_twice, leaves_enough, leaves_halvable}
use Rattle.products.proofs.split.Goals as goal

pub loop-leaves-preserved : goal.loop-leaves-preserved
loop-leaves-preserved c = leaves_twice c.loop-leaves.invariant c.loop-leaves-test.true c.requires

pub invariant_of-result : goal.invariant_of-result
invariant_of-result c =
    record { halvable = leaves_halvable c.loop-leaves.invariant c.div_ceil-leaf.ensures (omega arith) (omega arith) }

pub returns : goal.returns
returns c = leaves_enough c.args.n c.loop-leaves.invariant c.div_ceil-leaf.ensures

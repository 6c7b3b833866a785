-- `packing::join` is right because the four sums, each shifted to its place, have at most 32 bits together.
-- Assumes nothing.
use Rattle.std.proofs.Common.{arith}
use Rattle.packing.proofs.Lanes.{four_value}
use Rattle.packing.proofs.join.Goals as goal

pub overflow_add-result : goal.overflow_add-result
overflow_add-result c = omega (arith, four_value c.args.lanes.now c.args.b c.requires.1)

pub overflow_add-result-2 : goal.overflow_add-result-2
overflow_add-result-2 c = omega (arith, four_value c.args.lanes.now c.args.b c.requires.1)

pub overflow_add-result-3 : goal.overflow_add-result-3
overflow_add-result-3 c = omega (arith, four_value c.args.lanes.now c.args.b c.requires.1)

pub returns : goal.returns
returns c = omega (arith, four_value c.args.lanes.now c.args.b c.requires.1)

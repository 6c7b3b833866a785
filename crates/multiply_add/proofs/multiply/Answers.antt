-- `multiply_add::multiply` is right because each size of the array is three times the longest element that it is for.
-- Assumes nothing.
use Rattle.std.proofs.Common.{arith}
use Rattle.definitions.proofs.Parameters.{accepted-set}
use Rattle.parameters.specs.Answers.{set_from}
use Rattle.multiply_add.proofs.multiply.Goals as goal

pub multiply_in_array-requires-else-p-le1280 : goal.multiply_in_array-requires-else-p-le1280
multiply_in_array-requires-else-p-le1280 c =
    (c.requires, omega (arith, (accepted-set (set_from c.args.p) c.args.p.accepted).ring_most), omega arith)

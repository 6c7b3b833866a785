-- `packing::gather` is right because coefficient k has the weight 2^(k × b), and 32 bits hold all of them.
-- Assumes nothing.
use Rattle.std.proofs.Common.{◌≡◌, take}
use Rattle.packing.specs.Fields.{value_in}
use Rattle.packing.proofs.gather.Given as goal

abbrev pub invariant-loop-k : goal.invariant-loop-k
invariant-loop-k l = l.x ≡ value_in l.b (take l.k l.words)

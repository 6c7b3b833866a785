-- `unpacking::spread_rows` is right because each turn puts a row of four coefficients behind those that are there, from words read before.
-- Assumes nothing.
use Rattle.std.proofs.Common.{◌*◌, take}
use Rattle.unpacking.specs.Lanes.{rows_of}
use Rattle.unpacking.proofs.Lanes.{NewTo}
use Rattle.unpacking.proofs.spread_rows.Given as goal

abbrev pub invariant-loop-j : goal.invariant-loop-j
invariant-loop-j l = NewTo (l.j * 4) (rows_of l.b l.j (take 4 l.initial.words)) l.initial.words l.words

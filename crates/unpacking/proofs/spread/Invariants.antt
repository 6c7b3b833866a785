-- `unpacking::spread` is right because field k of x is x / 2^(k × b) modulo 2^b, and is stored at place k.
-- Assumes nothing.
use Rattle.std.proofs.Common.{◌≡◌, take}
use Rattle.packing.specs.Fields.{fields_of}
use Rattle.unpacking.proofs.spread.Given as goal

abbrev pub invariant-loop-k : goal.invariant-loop-k
invariant-loop-k l = take l.k l.words ≡ fields_of l.b l.k l.x

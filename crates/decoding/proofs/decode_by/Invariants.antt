-- `decoding::decode_by` is right because each turn stores the coefficient of its place behind those that are stored.
-- Assumes nothing.
use Rattle.std.proofs.Common.{◌≡◌, take}
use Rattle.definitions.specs.Octets.{decoded}
use Rattle.decoding.proofs.decode_by.Given as goal

abbrev pub invariant-loop-m : goal.invariant-loop-m
invariant-loop-m g l = take l.m l.words ≡ decoded g.row.QLEN l.m l.octets

abbrev pub invariant-loop-k : goal.invariant-loop-k
invariant-loop-k g l = take l.k l.words ≡ decoded g.row.QLEN l.k l.octets

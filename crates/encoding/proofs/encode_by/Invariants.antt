-- `encoding::encode_by` is right because each turn stores the octets of its words behind those of the words before.
-- Assumes nothing.
use Rattle.std.proofs.Common.{◌≡◌, ◌*◌, take}
use Rattle.definitions.specs.Octets.{encoded}
use Rattle.encoding.proofs.encode_by.Given as goal

abbrev pub invariant-loop-j : goal.invariant-loop-j
invariant-loop-j g l = take (2 * l.j * g.row.QLEN) l.octets ≡ encoded g.row.QLEN (take (2 * l.j) l.words)

abbrev pub invariant-loop-m : goal.invariant-loop-m
invariant-loop-m g l = take (l.m * g.row.QLEN) l.octets ≡ encoded g.row.QLEN (take l.m l.words)

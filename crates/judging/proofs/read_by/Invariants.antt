-- `judging::read_by` is right because the words before each place are the coefficients, which fit, and one that does not fit settles the answer.
-- Assumes nothing.
use Rattle.std.proofs.Common.{◌≡◌, true, take}
use Rattle.definitions.specs.Octets.{decoded, coefficients_fit}
use Rattle.judging.proofs.read_by.Given as goal

abbrev pub invariant-loop-m : goal.invariant-loop-m
invariant-loop-m g l = record {
  filled : take l.m l.words ≡ decoded g.row.QLEN l.m l.octets;
  fits : coefficients_fit l.q (decoded g.row.QLEN l.m l.octets) ≡ true;
}

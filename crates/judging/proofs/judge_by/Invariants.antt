-- `judging::judge_by` is right because the coefficients before each place fit, and several or one that do not fit settle the answer.
-- Assumes nothing.
use Rattle.std.proofs.Common.{◌≡◌, ◌*◌, true}
use Rattle.definitions.specs.Octets.{decoded, coefficients_fit}
use Rattle.judging.proofs.judge_by.Given as goal

abbrev pub invariant-loop-turn : goal.invariant-loop-turn
invariant-loop-turn g l = coefficients_fit l.q (decoded g.row.QLEN (l.turn * 64) l.octets) ≡ true

abbrev pub invariant-loop-m : goal.invariant-loop-m
invariant-loop-m g l = coefficients_fit l.q (decoded g.row.QLEN l.m l.octets) ≡ true

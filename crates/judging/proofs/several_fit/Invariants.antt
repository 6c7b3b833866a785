-- `judging::several_fit` is right because after each coefficient `fit` tells whether all up to it are below q.
-- Assumes nothing.
use Rattle.std.proofs.Common.{◌≡◌}
use Rattle.definitions.specs.Octets.{coefficients_fit}
use Rattle.judging.proofs.Laws.{coefficients_from}
use Rattle.judging.proofs.several_fit.Given as goal

abbrev pub invariant-loop-k : goal.invariant-loop-k
invariant-loop-k g l = l.fit ≡ coefficients_fit l.q (coefficients_from g.row.QLEN l.octets l.m l.k)

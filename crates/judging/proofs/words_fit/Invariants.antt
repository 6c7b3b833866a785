-- `judging::words_fit` is right because after each word `fit` tells whether all up to it are below q.
-- Assumes nothing.
use Rattle.std.proofs.Common.{◌≡◌, take}
use Rattle.definitions.specs.Octets.{coefficients_fit}
use Rattle.judging.proofs.words_fit.Given as goal

abbrev pub invariant-loop-word : goal.invariant-loop-word
invariant-loop-word l = l.fit ≡ coefficients_fit l.q (take l.word-index l.words)

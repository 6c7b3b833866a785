-- `judging::judge_words` is right because the words before each turn fit, several that do not fit settle the answer, and the rest is judged behind them.
-- Assumes nothing.
use Rattle.std.proofs.Common.{◌≡◌, ◌*◌, true, take}
use Rattle.definitions.specs.Octets.{coefficients_fit}
use Rattle.judging.proofs.judge_words.Given as goal

abbrev pub invariant-loop-turn : goal.invariant-loop-turn
invariant-loop-turn l = coefficients_fit l.q (take (l.turn * 32) l.words) ≡ true

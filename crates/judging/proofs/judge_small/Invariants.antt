-- `judging::judge_small` is right because each turn adds the bits of its word: bits together are below a power of two just where both parts are.
-- Assumes nothing.
use Rattle.std.proofs.Common.{◌≡◌, ◌^◌, take, ltb}
use Rattle.definitions.specs.Octets.{coefficients_fit}
use Rattle.judging.proofs.judge_small.Given as goal

abbrev pub invariant-loop-word : goal.invariant-loop-word
invariant-loop-word l = ltb l.bits (2 ^ l.b) ≡ coefficients_fit (2 ^ l.b) (take l.word-index l.words)

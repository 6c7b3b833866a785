-- `conversions::judge_padding` is right because the elements before each have clear unused bits, and one that has not settles the answer.
-- Assumes nothing.
use Rattle.std.proofs.Common.{◌≡◌, true}
use Rattle.definitions.specs.Sequences.{every}
use Rattle.definitions.specs.Octets.{padding_clear}
use Rattle.definitions.specs.Conversions.{chunk}
use Rattle.conversions.proofs.judge_padding.Given as goal

abbrev pub invariant-loop-i : goal.invariant-loop-i
invariant-loop-i l = every l.i (λ j. padding_clear l.used (chunk l.len l.octets j)) ≡ true

-- `capped_bound` meets its contract. At turn k the sum is the bound with its first k terms, still below 2^31, and power is the power in
-- term k: at most 61,440 times the one before, which is part of the sum. A sum that reaches 2^31 stays at or below B.
-- Assumes nothing.
use Rattle.parameters.proofs.NoiseBound.{Turn}
use Rattle.parameters.proofs.noise.capped_bound.Given as goal

abbrev pub invariant-loop-k : goal.invariant-loop-k
invariant-loop-k l = Turn l.fn.set.l l.fn.set.n l.last l.sum l.power l.k

-- `octets_of_coefficient` meets its contract: it is the definition at the bit length, which is at most 32.
-- Assumes nothing.
use Rattle.std.proofs.Common.{ℕ, ◌+◌, ◌/◌, ap, arith}
use Rattle.definitions.specs.Parameters.{bit_length, qlen}
use Rattle.lengths.proofs.octets_of_coefficient.Goals as goal

pub overflow_add-result : goal.overflow_add-result
unfolding bit_length
overflow_add-result c = record { fits = omega arith }

pub returns : goal.returns
unfolding qlen
returns c = ap (λ (x : ℕ). (x + 7) / 8) c.bit_length.ensures

-- `bits_clear` judges both halves.
-- Assumes nothing.
use Rattle.std.proofs.Common.{arith}
use Rattle.definitions.specs.Calls.{secret_bits_clear}
use Rattle.parameters.specs.Answers.{set_from}
use Rattle.secrets.proofs.Halves.{first-room, second-room, half-second}
use Rattle.secrets.proofs.bits_clear.Goals as goal

pub half_bits_clear-requires : goal.half_bits_clear-requires
half_bits_clear-requires c = first-room (set_from c.args.p) c.args.secret.now c.requires

pub half_bits_clear-requires-2 : goal.half_bits_clear-requires-2
half_bits_clear-requires-2 c = omega (arith, second-room (set_from c.args.p) c.args.secret.now c.requires)

pub returns : goal.returns
unfolding secret_bits_clear
returns c =
    rw (c.half_bits_clear.ensures, c.half_bits_clear-2.ensures, c.small_length-second.ensures, half-second (set_from c.args.p) c.args.secret.now c.requires)

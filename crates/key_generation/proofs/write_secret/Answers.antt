-- `write_secret` is right because the octets of u_y are written behind those of u_x, and both are the whole.
-- Assumes nothing.
use Rattle.std.proofs.Common.{◌∙◌, arith}
use native.Mathlib.Nat.{zero-add}
use Rattle.definitions.specs.Parameters.{small_length}
use Rattle.parameters.specs.Answers.{set_from}
use Rattle.key_draws.proofs.Parts.{follows_twice}
use Rattle.key_generation.proofs.write_secret.Goals as goal

pub write_half-requires : goal.write_half-requires
write_half-requires c =
    (omega (arith, c.requires.0.sized), rw (zero-add c.args.p.set.n) c.requires.0.x, omega (arith, c.requires.1))

pub returns : goal.returns
returns c =
    follows_twice (small_length (set_from c.args.p)) c.args.secret.now _ _ _ _ (rw (zero-add c.args.p.set.n) at c.write_half.ensures)
    (rw c.small_length-one.ensures at c.write_half-2.ensures) (c.write_half-2.auto.secret ∙ c.write_half.auto.secret ∙ c.requires.1)

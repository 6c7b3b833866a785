-- `keygen` is right because it tests the lengths first, and touches nothing where it refuses them.
-- Assumes nothing.
use Rattle.std.proofs.Common.{sym, ◌∙◌}
use Rattle.key_generation.proofs.Returns.{keygen-length}
use Rattle.key_generation.proofs.keygen.Goals as goal

pub returns-then-not-keys_exact : goal.returns-then-not-keys_exact
returns-then-not-keys_exact c =
    keygen-length _ _ _ _ _ _ _ _ c.args.p.accepted (sym c.keys_exact.ensures ∙ c.if-not-keys_exact.true)

-- `encrypt`: nothing is touched where a length is not exact; otherwise what `encrypt_fitting` leaves is left, with the work words cleared.
-- Assumes nothing.
use Rattle.std.proofs.Common.{sym, ◌∙◌}
use Rattle.definitions.specs.Calls.{encrypt_answer, encrypt_exit, encrypt_leaves}
use Rattle.definitions.proofs.Exits.{exit_length}
use Rattle.parameters.specs.Answers.{set_from}
use Rattle.encryption.proofs.encrypt.Goals as goal

pub returns-then-not-encrypt_exact : goal.returns-then-not-encrypt_exact
unfolding encrypt_exit encrypt_answer
returns-then-not-encrypt_exact c =
    let a = c.args in
    exit_length (λ x. encrypt_leaves x a.ciphertext.now a.used.now a.dropped_groups.now a.work.now) (set_from a.p) _ _ _ a.p.accepted
    (sym c.encrypt_exact.ensures ∙ c.if-not-encrypt_exact.true)

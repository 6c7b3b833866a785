-- `decrypt` is right because its tests come in the table's order, and past the length test the work words are cleared in any case.
-- Assumes nothing.
use Rattle.std.proofs.Common.{ℕ, replicate, sym, ap, ◌∙◌}
use Rattle.definitions.proofs.Calls.{decrypt_exact-told}
use Rattle.parameters.specs.Answers.{set_from}
use Rattle.parameters.specs.Refusals.{number_in}
use Rattle.decryption.proofs.Laws.{decrypt-length, decrypt-inputs, decrypt-decrypted}
use Rattle.decryption.proofs.decrypt.Goals as goal

pub returns-then-not-decrypt_exact : goal.returns-then-not-decrypt_exact
returns-then-not-decrypt_exact c = decrypt-length _ c.args.p.accepted _ _ _ _ (sym c.if-not-decrypt_exact.ensures)

pub decrypted-outcome-requires : goal.decrypted-outcome-requires
decrypted-outcome-requires c =
    let a = c.args in
    let exact = sym c.if-not-decrypt_exact.ensures in
    (decrypt-inputs (set_from a.p) c.args.p.accepted a.secret.now a.ciphertext.now a.message.now a.work.now exact, (decrypt_exact-told (set_from a.p) exact).2)

pub returns : goal.returns
returns c =
    let a = c.args in
    rw c.cleared.ensures.0
    (decrypt-decrypted (set_from a.p) c.args.p.accepted a.secret.now a.ciphertext.now a.message.now a.work.now (sym c.if-not-decrypt_exact.ensures)
    (number_in c.decrypted-outcome.result) c.decrypted-outcome.ensures (c.cleared.ensures.1 ∙ ap (λ (m : ℕ). replicate m 0) c.decrypted-outcome.auto.work))

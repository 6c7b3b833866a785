-- `is_zero` is right because its tests come in the table's order, and past the length test the work words are cleared in any case.
-- Assumes nothing.
use Rattle.std.proofs.Common.{ℕ, replicate, sym, ap, ◌∙◌}
use Rattle.parameters.specs.Answers.{set_from}
use Rattle.parameters.specs.Refusals.{number_in}
use Rattle.zero_test.proofs.Laws.{is-zero-length, is-zero-inputs, is-zero-tested}
use Rattle.zero_test.proofs.is_zero.Goals as goal

pub returns-then-not-keys_exact : goal.returns-then-not-keys_exact
returns-then-not-keys_exact c = is-zero-length _ c.args.p.accepted _ _ _ _ (sym c.if-not-keys_exact.ensures)

pub tested-outcome-requires : goal.tested-outcome-requires
tested-outcome-requires c = is-zero-inputs _ c.args.p.accepted _ _ 0 _ (sym c.if-not-keys_exact.ensures)

pub returns : goal.returns
returns c =
    let a = c.args in
    rw c.cleared.ensures.0
    (is-zero-tested (set_from a.p) c.args.p.accepted a.secret.now a.public.now a.zero.now a.work.now (sym c.if-not-keys_exact.ensures) (number_in c.tested-outcome.result)
    c.tested-outcome.ensures (c.cleared.ensures.1 ∙ ap (λ (m : ℕ). replicate m 0) c.tested-outcome.auto.work))

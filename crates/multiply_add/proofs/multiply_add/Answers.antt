-- `multiply_add::multiply_add` is right because its tests come in the table's order, and c is written after the last of them alone.
-- Assumes nothing.
use Rattle.std.proofs.Common.{ℕ, List, ◌≡◌, ◌∙◌, true, false, [], length, sym}
use Rattle.std.proofs.lemmas.Result.{err_from_is_err_and}
use Rattle.definitions.specs.Refusals.{first_refusal}
use Rattle.definitions.specs.Octets.{coefficients_fit}
use Rattle.definitions.specs.MultiplyAdd.{multiply_add_exact, words_fit, multiply_add_leaves, multiply_add_answer, multiply_add_exit}
use Rattle.definitions.proofs.Refusals.{first_refusal_applies, first_refusal_last}
use Rattle.definitions.proofs.MultiplyAdd.{fit_elements}
use Rattle.definitions.proofs.Exits.{exit_length, exit_refused, exit_accepted}
use Rattle.parameters.specs.Answers.{set_from}
use Rattle.parameters.proofs.Answers.{refusal-some}
use Rattle.judging.specs.Reading.{fit_number}
use Rattle.judging.proofs.Judged.{fit_number-fits, fit_number-refused}
use Rattle.multiply_add.proofs.multiply_add.Goals as goal
use Rattle.multiply_add.proofs.multiply_add.Goals.{Else-not-multiply_add_exact, In_ok-judge_words, In_ok-judge_words-2, In_ok-judge_words-3}

-- a judge's number that is not 0 is 8, and some word does not fit
refused : (q : ℕ) (words : List ℕ) {r : ℕ} → r ≡ fit_number q words → (r ≡ 0 → ⊥) → (r ≡ 8) × (coefficients_fit q words ≡ false)
unfolding fit_number first_refusal
refused q words e z = let unfit = fit_number-refused q words (λ n. z (e ∙ n)) in (e ∙ rw unfit, unfit)

pub returns-then-not-multiply_add_exact : goal.returns-then-not-multiply_add_exact
unfolding multiply_add_exit multiply_add_answer
returns-then-not-multiply_add_exact c =
    exit_length (λ x. multiply_add_leaves x c.args.a.now c.args.b.now c.args.c.now) (set_from c.args.p) _ _ _ c.args.p.accepted
    (sym c.multiply_add_exact.ensures ∙ c.if-not-multiply_add_exact.true)

exact : (c : Else-not-multiply_add_exact) → multiply_add_exact (set_from c.args.p) (length c.args.a.now) (length c.args.b.now) (length c.args.c.now) ≡ true
exact c = sym c.multiply_add_exact.ensures ∙ c.if-not-multiply_add_exact.false

pub returns-in_err-judge_words : goal.returns-in_err-judge_words
unfolding multiply_add_exit multiply_add_answer words_fit
returns-in_err-judge_words c =
    let a = c.args in
    let same = err_from_is_err_and c.from_residual.result c.from_residual.ensures.1 in
    let told = refused a.p.set.q a.a.now c.in_err-judge_words.ensures (refusal-some _) in
    rw (same.1, same.2, told.0)
    (exit_refused (λ x. multiply_add_leaves x a.a.now a.b.now a.c.now) (set_from a.p) _ _ _ a.p.accepted
    (exact (goal.at.returns-in_err-judge_words c).Else-not-multiply_add_exact) 7 (first_refusal_applies 8 _ [] (rw told.1)))

first_fits : (c : In_ok-judge_words) → coefficients_fit c.args.p.set.q c.args.a.now ≡ true
first_fits c = fit_number-fits c.args.p.set.q c.args.a.now (sym c.in_ok-judge_words.ensures)

pub returns-in_err-judge_words-2 : goal.returns-in_err-judge_words-2
unfolding multiply_add_exit multiply_add_answer words_fit
returns-in_err-judge_words-2 c =
    let a = c.args in
    let same = err_from_is_err_and c.from_residual-in_err-judge_words-2.result c.from_residual-in_err-judge_words-2.ensures.1 in
    let told = refused a.p.set.q a.b.now c.in_err-judge_words-2.ensures (refusal-some _) in
    rw (same.1, same.2, told.0)
    (exit_refused (λ x. multiply_add_leaves x a.a.now a.b.now a.c.now) (set_from a.p) _ _ _ a.p.accepted
    (exact (goal.at.returns-in_err-judge_words-2 c).Else-not-multiply_add_exact) 7
    (first_refusal_applies 8 _ [] (rw (first_fits (goal.at.returns-in_err-judge_words-2 c).In_ok-judge_words, told.1))))

second_fits : (c : In_ok-judge_words-2) → coefficients_fit c.args.p.set.q c.args.b.now ≡ true
second_fits c = fit_number-fits c.args.p.set.q c.args.b.now (sym c.in_ok-judge_words-2.ensures)

pub returns-in_err-judge_words-3 : goal.returns-in_err-judge_words-3
unfolding multiply_add_exit multiply_add_answer words_fit
returns-in_err-judge_words-3 c =
    let a = c.args in
    let h = goal.at.returns-in_err-judge_words-3 c in
    let same = err_from_is_err_and c.from_residual-in_err-judge_words-3.result c.from_residual-in_err-judge_words-3.ensures.1 in
    let told = refused a.p.set.q a.c.now c.in_err-judge_words-3.ensures (refusal-some _) in
    rw (same.1, same.2, told.0)
    (exit_refused (λ x. multiply_add_leaves x a.a.now a.b.now a.c.now) (set_from a.p) _ _ _ a.p.accepted
    (exact h.Else-not-multiply_add_exact) 7
    (first_refusal_applies 8 _ [] (rw (first_fits h.In_ok-judge_words, second_fits h.In_ok-judge_words-2, told.1))))

all_fit : (c : In_ok-judge_words-3) → words_fit c.args.p.set.q c.args.a.now c.args.b.now c.args.c.now ≡ true
unfolding words_fit
all_fit c =
    let h = goal.at.In_ok-judge_words-3 c in
    let third = fit_number-fits c.args.p.set.q c.args.c.now (sym c.in_ok-judge_words-3.ensures) in
    rw (first_fits h.In_ok-judge_words, second_fits h.In_ok-judge_words-2, third)

pub multiply-requires : goal.multiply-requires
multiply-requires c =
    let h = goal.at.multiply-requires c in
    fit_elements (set_from c.args.p) c.args.a.now c.args.b.now c.args.c.now (exact h.Else-not-multiply_add_exact) (all_fit h.In_ok-judge_words-3)

pub returns : goal.returns
unfolding multiply_add_exit multiply_add_answer
returns c =
    let h = goal.at.returns c in
    rw c.multiply.ensures
    (exit_accepted (λ x. multiply_add_leaves x c.args.a.now c.args.b.now c.args.c.now) (set_from c.args.p) _ _ _ c.args.p.accepted
    (exact h.Else-not-multiply_add_exact) (first_refusal_last 8 _ (rw (all_fit h.In_ok-judge_words-3))))

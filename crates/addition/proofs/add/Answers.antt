-- `addition::add` is right because its tests come in the table's order, and the output is written after the last of them alone.
-- Assumes nothing.
use Rattle.std.proofs.Common.{refl, sym, ◌∙◌, ◌≡◌, true, [], length}
use Rattle.std.proofs.lemmas.Result.{err_from_is_err_and}
use Rattle.definitions.specs.Parameters.{degree, monomial_count, elements_length, ciphertext_length}
use Rattle.definitions.specs.Calls.{elements_fit, add_leaves, add_answer, add_exit}
use Rattle.definitions.proofs.Refusals.{first_refusal_applies, first_refusal_last}
use Rattle.definitions.proofs.Calls.{add_exact-told}
use Rattle.definitions.proofs.Exits.{exit_length, exit_refused, exit_accepted}
use Rattle.parameters.specs.Answers.{set_from}
use Rattle.parameters.proofs.Answers.{refusal-some}
use Rattle.addition.proofs.Sums.{judge_passed, judge_refused, ciphertext-count, qlen-bounds, exact_summands, coefficient_sums-octets_from}
use Rattle.addition.proofs.add.Goals as goal
use Rattle.addition.proofs.add.Goals.{Else-not-add_exact, In_ok-judge, In_ok-judge-2}

pub returns-then-not-add_exact : goal.returns-then-not-add_exact
unfolding add_exit add_answer
returns-then-not-add_exact c =
    exit_length (λ x. add_leaves x c.args.sum.now) (set_from c.args.p) _ _ _ c.args.p.accepted
    (sym c.add_exact.ensures ∙ c.if-not-add_exact.true)

lengths : (c : Else-not-add_exact) → let a = c.args in let size = ciphertext_length (set_from a.p) in
    (length a.a.now ≡ size) × (length a.b.now ≡ size) × (length a.sum.now ≡ size)
lengths c = add_exact-told (set_from c.args.p) (sym c.add_exact.ensures ∙ c.if-not-add_exact.false)

pub judge-requires : goal.judge-requires
judge-requires c = rw c.octets_of_coefficient-qlen.ensures (qlen-bounds (set_from c.args.p) c.args.p.accepted)

pub returns-in_err-judge : goal.returns-in_err-judge
unfolding add_exit add_answer
returns-in_err-judge c =
    let p = set_from c.args.p in
    let e = lengths (goal.at.returns-in_err-judge c).Else-not-add_exact in
    let same = err_from_is_err_and c.from_residual.result c.from_residual.ensures.1 in
    let told = judge_refused p c.args.p.accepted c.args.a.now e.0 c.octets_of_coefficient-qlen.ensures c.in_err-judge.ensures (refusal-some _) in
    rw (same.1, same.2, told.0)
    (exit_refused (λ x. add_leaves x c.args.sum.now) p _ _ _ c.args.p.accepted
    (sym c.add_exact.ensures ∙ c.if-not-add_exact.false) 7 (first_refusal_applies 8 _ [] (rw told.1)))

first_fits : (c : In_ok-judge) → elements_fit (set_from c.args.p) (monomial_count (degree (set_from c.args.p))) c.args.a.now ≡ true
first_fits c =
    let e = lengths (goal.at.In_ok-judge c).Else-not-add_exact in
    judge_passed (set_from c.args.p) c.args.p.accepted c.args.a.now e.0 c.octets_of_coefficient-qlen.ensures c.in_ok-judge.ensures refl

pub judge-requires-2 : goal.judge-requires-2
judge-requires-2 c = rw c.octets_of_coefficient-qlen.ensures (qlen-bounds (set_from c.args.p) c.args.p.accepted)

pub returns-in_err-judge-2 : goal.returns-in_err-judge-2
unfolding add_exit add_answer
returns-in_err-judge-2 c =
    let p = set_from c.args.p in
    let e = lengths (goal.at.returns-in_err-judge-2 c).Else-not-add_exact in
    let same = err_from_is_err_and c.from_residual-in_err-judge-2.result c.from_residual-in_err-judge-2.ensures.1 in
    let told = judge_refused p c.args.p.accepted c.args.b.now e.1 c.octets_of_coefficient-qlen.ensures c.in_err-judge-2.ensures (refusal-some _) in
    rw (same.1, same.2, told.0)
    (exit_refused (λ x. add_leaves x c.args.sum.now) p _ _ _ c.args.p.accepted
    (sym c.add_exact.ensures ∙ c.if-not-add_exact.false) 7
    (first_refusal_applies 8 _ [] (rw (first_fits (goal.at.returns-in_err-judge-2 c).In_ok-judge, told.1))))

second_fits : (c : In_ok-judge-2) → elements_fit (set_from c.args.p) (monomial_count (degree (set_from c.args.p))) c.args.b.now ≡ true
second_fits c =
    let e = lengths (goal.at.In_ok-judge-2 c).Else-not-add_exact in
    judge_passed (set_from c.args.p) c.args.p.accepted c.args.b.now e.1 c.octets_of_coefficient-qlen.ensures c.in_ok-judge-2.ensures refl

pub nonzero_div-sum : goal.nonzero_div-sum
nonzero_div-sum c = rw c.octets_of_coefficient-qlen.ensures (qlen-bounds (set_from c.args.p) c.args.p.accepted).0

pub add_octets-requires : goal.add_octets-requires
add_octets-requires c =
    let p = set_from c.args.p in
    let e = lengths (goal.at.add_octets-requires c).Else-not-add_exact in
    let first = first_fits (goal.at.add_octets-requires c).In_ok-judge in
    let second = second_fits (goal.at.add_octets-requires c).In_ok-judge-2 in
    rw (c.octets_of_coefficient-qlen.ensures, e.2, ciphertext-count p c.args.p.accepted)
    (exact_summands p c.args.p.accepted c.args.a.now c.args.b.now e.0 e.1 first second, unfold ciphertext_length elements_length in refl)

pub returns : goal.returns
unfolding add_exit add_answer
returns c =
    let p = set_from c.args.p in
    let e = lengths (goal.at.returns c).Else-not-add_exact in
    let first = first_fits (goal.at.returns c).In_ok-judge in
    let second = second_fits (goal.at.returns c).In_ok-judge-2 in
    let sums = rw (c.octets_of_coefficient-qlen.ensures, e.2, ciphertext-count p c.args.p.accepted) at c.add_octets.ensures in
    rw (sums ∙ coefficient_sums-octets_from p _ c.args.a.now c.args.b.now)
    (exit_accepted (λ x. add_leaves x c.args.sum.now) p _ _ _ c.args.p.accepted
    (sym c.add_exact.ensures ∙ c.if-not-add_exact.false) (first_refusal_last 8 _ (rw (first, second))))

-- `evaluate` takes a row a turn, one power of y lower each time.
-- Assumes nothing.
use Rattle.std.proofs.lemmas.Result.{err_from_is_err_and}
use Rattle.std.proofs.Common.{◌≡◌, ℕ, suc, ◌+◌, ◌%◌, ◌<◌, sym, ap, ◌∙◌, arith}
use Rattle.definitions.specs.Parameters.{monomial_count}
use Rattle.definitions.specs.Calls.{polynomial_in}
use Rattle.ring.specs.Work.{part}
use Rattle.judging.specs.Reading.{fit_number}
use Rattle.judging.proofs.Judged.{number-zero, number_fits, number_same}
use Rattle.parameters.proofs.Answers.{refusal-some}
use Rattle.values.specs.Horner.{row_of, nested, fits_at, row_fits}
use Rattle.values.proofs.Horner.{nested-value, rows_all, rows_not}
use Rattle.values.proofs.Loops.{row_cong, decoded-fits, horner_at_none, horner_at_next, horner_at_all}
use Rattle.values.proofs.evaluate.Goals as goal
use Rattle.values.proofs.evaluate.Goals.{In-loop-t}

pub loop-t-init : goal.loop-t-init
loop-t-init c = horner_at_none

pub returns-in_err-row-clause-judged : goal.returns-in_err-row-clause-judged
unfolding fit_number
returns-in_err-row-clause-judged c =
    let a = c.args in
    let fits = fits_at a.q a.n a.qlen a.octets.now in
    let all = decoded-fits a.q a.n a.qlen a.octets.now (monomial_count a.d) in
    let same = err_from_is_err_and c.from_residual.result c.from_residual.ensures.1 in
    rw (same.1, same.2)
    (number_same (row_fits a.d fits c.loop-t.t) _ c.in_err-row.ensures.judged (refusal-some _)
    (λ f. all ∙ rows_not a.d fits c.loop-t.t (omega arith) f))

-- a row is that of u_x as it was at the start
same : (c : In-loop-t) → let a = c.args in
    let f = polynomial_in a.n a.qlen a.octets.now in
    (k : ℕ) → k < a.n → row_of a.n a.d f (part c.loop-t.work 0) c.loop-t.t k % a.q ≡ row_of a.n a.d f (part a.work.now 0) c.loop-t.t k % a.q
same c k m =
    let a = c.args in
    ap (λ (x : ℕ). x % a.q)
    (row_cong a.n a.d (polynomial_in a.n a.qlen a.octets.now) c.loop-t.t (λ i l. c.loop-t.invariant.before (0 + i) (omega arith)) k m)

pub loop-t-preserved : goal.loop-t-preserved
loop-t-preserved c =
    let a = c.args in
    let zero = sym c.in_ok-row.ensures.judged in
    let fit = number_fits (row_fits a.d (fits_at a.q a.n a.qlen a.octets.now) c.loop-t.t) zero in
    horner_at_next (omega arith, omega arith) c.loop-t.invariant c.in_ok-row.ensures.placed fit
    (same (goal.at.loop-t-preserved c).In-loop-t) c.step.ensures

pub returns-clause-judged : goal.returns-clause-judged
unfolding fit_number
returns-clause-judged c =
    let a = c.args in
    let all : c.loop-t.t ≡ suc a.d = omega arith in
    number-zero
    (decoded-fits a.q a.n a.qlen a.octets.now (monomial_count a.d)
    ∙ rows_all a.d (fits_at a.q a.n a.qlen a.octets.now) (rw all at c.loop-t.invariant.fit))

pub returns-clause-evaluated : goal.returns-clause-evaluated
unfolding nested
returns-clause-evaluated c k m =
    let a = c.args in
    let all : c.loop-t.t ≡ suc a.d = omega arith in
    (horner_at_all all c.loop-t.invariant).placed k m
    ∙ ap (λ (x : ℕ). x % a.q) (nested-value a.n a.d (polynomial_in a.n a.qlen a.octets.now) (part a.work.now 0) (part a.work.now a.n) m)

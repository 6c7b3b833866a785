-- `row` takes a term of the row a turn, one total degree lower each time.
-- Assumes nothing.
use Rattle.std.proofs.lemmas.Result.{err_from_is_err_and}
use Rattle.std.proofs.Common.{◌≡◌, ℕ, suc, ◌+◌, ◌-◌, ◌%◌, ◌<◌, false, true, sym, ap, ◌∙◌, arith}
use Rattle.definitions.specs.Parameters.{monomial_count}
use Rattle.definitions.specs.Calls.{polynomial_in}
use Rattle.definitions.proofs.Sums.{every_false}
use Rattle.judging.proofs.Judged.{number-zero, number_fits, number_same}
use Rattle.parameters.proofs.Answers.{refusal-some}
use Rattle.values.specs.Horner.{starts, term_place, row_of, fits_at, row_fits}
use Rattle.values.proofs.Horner.{starts-zero, starts-suc, place_inside}
use Rattle.values.proofs.Loops.{sizes_kept, count_most, in_octets, element_fits, horner_at_none, horner_at_ready, horner_at_next, horner_at_all}
use Rattle.values.proofs.row.Goals as goal
use Rattle.values.proofs.row.Goals.{In-loop-s, In_ok-read_element}

pub loop-s-init : goal.loop-s-init
loop-s-init c = (sym (starts-zero c.args.d), horner_at_none)

-- the turn's term is one of the list
here : (d t s : ℕ) {first : ℕ} → first ≡ starts d s → first + (d - t) ≡ term_place d t s
here d t s e = ap (λ (x : ℕ). x + (d - t)) e

inside : (c : In-loop-s) → c.loop-s.first + (c.args.d - c.args.t) < monomial_count c.args.d
inside c = rw (here c.args.d c.args.t c.loop-s.s c.loop-s.invariant.0) (place_inside c.args.d c.loop-s.s c.args.t (omega arith) c.requires.sizes.2)

pub overflow_add-first : goal.overflow_add-first
overflow_add-first c =
    record { fits = omega (arith, inside (goal.at.overflow_add-first c).In-loop-s, count_most c.args.d c.requires.sizes.1) }

pub read_element-requires : goal.read_element-requires
read_element-requires c =
    let a = c.args in
    let among : c.loop-s.first + (a.d - a.t) < monomial_count a.d = inside (goal.at.read_element-requires c).In-loop-s in
    let long = c.loop-s.invariant.1.as_long in (
      sizes_kept c.requires.sizes.0 long,
      omega (arith, count_most a.d c.requires.sizes.1),
      omega (arith, in_octets a.n a.qlen _ (monomial_count a.d) among, c.requires.sizes.3),
      omega (arith, long, c.requires.sizes.0.room),
    )

pub returns-in_err-read_element-clause-judged : goal.returns-in_err-read_element-clause-judged
returns-in_err-read_element-clause-judged c =
    let a = c.args in
    let fits = fits_at a.q a.n a.qlen a.octets.now in
    let row : fits (c.loop-s.first + (a.d - a.t)) ≡ false → row_fits a.d fits a.t ≡ false =
    λ f. every_false (suc a.t) (λ i. fits (term_place a.d a.t i)) {k = c.loop-s.s} (omega arith) (rw (here a.d a.t c.loop-s.s c.loop-s.invariant.0) at f) in
    let same = err_from_is_err_and c.from_residual.result c.from_residual.ensures.1 in
    rw (same.1, same.2)
    (number_same (fits (c.loop-s.first + (a.d - a.t))) (row_fits a.d fits a.t) c.in_err-read_element.ensures.judged (refusal-some _) row)

-- the term is read, and fits
fitting : (c : In_ok-read_element) → let a = c.args in fits_at a.q a.n a.qlen a.octets.now (term_place a.d a.t c.loop-s.s) ≡ true
fitting c =
    let a = c.args in
    let e = sym c.in_ok-read_element.ensures.judged in
    rw (here c.args.d c.args.t c.loop-s.s c.loop-s.invariant.0) at (number_fits (fits_at a.q a.n a.qlen a.octets.now (c.loop-s.first + (a.d - a.t))) e)

-- so what was read is the term's element, reduced
same : (c : In_ok-read_element) → let a = c.args in
    let f = polynomial_in a.n a.qlen a.octets.now in
    (k : ℕ) → k < a.n → f (c.loop-s.first + (a.d - a.t)) k ≡ f (term_place a.d a.t c.loop-s.s) k % a.q
same c k m =
    let a = c.args in
    rw (here c.args.d c.args.t c.loop-s.s c.loop-s.invariant.0) (element_fits a.q a.n a.qlen a.octets.now _ (fitting c) k m)

pub step-requires-clause-in_ring : goal.step-requires-clause-in_ring
step-requires-clause-in_ring c =
    horner_at_ready (omega arith, omega arith) c.loop-s.invariant.1 c.in_ok-read_element.ensures.placed (omega arith)
    c.requires.in_ring (same (goal.at.step-requires-clause-in_ring c).In_ok-read_element)

pub overflow_add-first-in-loop-s-2 : goal.overflow_add-first-in-loop-s-2
overflow_add-first-in-loop-s-2 c =
    record { fits = omega (arith, inside (goal.at.overflow_add-first-in-loop-s-2 c).In-loop-s, count_most c.args.d c.requires.sizes.1) }

pub loop-s-preserved : goal.loop-s-preserved
loop-s-preserved c =
    let e = (goal.at.loop-s-preserved c).In_ok-read_element in (
      ap (λ (x : ℕ). x + (c.args.d + 1 - c.loop-s.s)) c.loop-s.invariant.0 ∙ sym (starts-suc c.args.d c.loop-s.s),
      horner_at_next (omega arith, omega arith) c.loop-s.invariant.1 c.in_ok-read_element.ensures.placed (fitting e) (same e)
          c.step.ensures,
    )

pub returns-clause-judged : goal.returns-clause-judged
returns-clause-judged c =
    let all : c.loop-s.s ≡ suc c.args.t = omega arith in
    number-zero (rw all at c.loop-s.invariant.1.fit)

pub returns-clause-placed : goal.returns-clause-placed
unfolding row_of
returns-clause-placed c =
    let all : c.loop-s.s ≡ suc c.args.t = omega arith in
    horner_at_all all c.loop-s.invariant.1

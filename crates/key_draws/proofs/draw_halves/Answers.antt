-- `draw_halves` is right because u_y is drawn behind u_x, from the octets after those that u_x took.
-- Assumes nothing.
use Rattle.std.proofs.Common.{◌≡◌, ◌∷◌, [], ◌+◌, ◌*◌, ◌≤◌, length, ℕ, ap, arith}
use Rattle.std.proofs.Math.Seq.{slice}
use Rattle.definitions.specs.Parameters.{small_length}
use Rattle.definitions.specs.Draws.{secret_draws}
use Rattle.definitions.specs.Calls.{half_draws}
use Rattle.parameters.specs.Answers.{set_from}
use Rattle.std.proofs.lemmas.Result.{err_from_is_err_and}
use Rattle.std.specs.Prelude.{Ok}
use Rattle.draws.specs.declared.Run.{Run}
use Rattle.draws.proofs.Runs.{said_complete, said-exhausted, drawn_answer-whole}
use Rattle.key_draws.specs.Keys.{words_halves}
use Rattle.key_draws.proofs.Draws.{enough_of, octets-room, elements-room, halves_ended_x, halves_ended_y, halves_words}
use Rattle.key_draws.proofs.draw_halves.Goals as goal
use Rattle.key_draws.proofs.draw_halves.Goals.{After-small_length, After-draw_half-2}

-- ---- what was drawn

x : (c : After-small_length)
    → secret_draws (set_from c.args.p) 1 c.args.random.now
    ≡ enough_of (slice 0 (0 + c.args.p.set.n) c.draw_half.new.work ∷ []) c.in_ok-x.x.groups c.in_ok-x.x.dropped
x c = said_complete _ _ c.in_ok-x.was c.draw_half.ensures.drawn

-- the octets of u_x, dropped elements included
taken : (c : After-small_length) → c.small_length.result * c.in_ok-x.x.groups ≡ small_length (set_from c.args.p) * c.in_ok-x.x.groups
taken c = ap (λ (m : ℕ). m * c.in_ok-x.x.groups) c.small_length.ensures

room : (c : After-small_length) → c.small_length.result * c.in_ok-x.x.groups ≤ length c.args.random.now
room c = rw c.small_length.ensures (octets-room (set_from c.args.p) 1 _ (x c))

-- u_y behind u_x
both : (c : After-draw_half-2) {run : Run} → c.draw_half-2.result ≡ Ok run
    → half_draws (set_from c.args.p) c.args.random.now
    ≡ enough_of (words_halves (set_from c.args.p) c.draw_half-2.new.work) (c.in_ok-x.x.groups + run.groups) (c.in_ok-x.x.dropped + run.dropped)
both c was =
    halves_words (set_from c.args.p) c.args.random.now c.draw_half.new.work _ c.draw_half-2.ensures.work_kept
    (said_complete _ _ c.in_ok-x.was c.draw_half.ensures.drawn) (ap (λ (m : ℕ). m * c.in_ok-x.x.groups) c.small_length.ensures)
    (said_complete _ _ was c.draw_half-2.ensures.drawn)

fits : (c : After-draw_half-2) {run : Run} → c.draw_half-2.result ≡ Ok run
    → (c.in_ok-x.x.groups + run.groups ≤ length c.args.random.now) × (c.in_ok-x.x.dropped + run.dropped ≤ length c.args.random.now)
fits c was = elements-room (set_from c.args.p) 2 c.args.random.now (both c was) c.args.p.accepted

-- ---- goals

pub returns-in_err-x : goal.returns-in_err-x
returns-in_err-x c =
    let same = err_from_is_err_and c.from_residual.result c.from_residual.ensures.1 in
    rw (same.1, same.2) (halves_ended_x (set_from c.args.p) _ (said-exhausted _ _ c.in_err-x.was c.draw_half.ensures.drawn))

pub overflow_mul-start : goal.overflow_mul-start
overflow_mul-start c = record { fits = omega (arith, room (goal.at.overflow_mul-start c).After-small_length, c.well_formed) }

pub slice_bounds-draw_half-count : goal.slice_bounds-draw_half-count
slice_bounds-draw_half-count c = room (goal.at.slice_bounds-draw_half-count c).After-small_length

pub slice_bounds-draw_half-start : goal.slice_bounds-draw_half-start
slice_bounds-draw_half-start c = room (goal.at.slice_bounds-draw_half-start c).After-small_length

pub returns-in_err-y : goal.returns-in_err-y
returns-in_err-y c =
    let s = (goal.at.returns-in_err-y c).After-small_length in
    let same = err_from_is_err_and c.from_residual-in_err-y.result c.from_residual-in_err-y.ensures.1 in
    rw (same.1, same.2)
    (halves_ended_y (set_from c.args.p) _ (x s) _ (taken s) (said-exhausted _ _ c.in_err-y.was c.draw_half-2.ensures.drawn))

pub overflow_add-result : goal.overflow_add-result
overflow_add-result c =
    let f = fits (goal.at.overflow_add-result c).After-draw_half-2 c.in_ok-y.was in record { fits = omega (arith, f.0, c.well_formed) }

pub overflow_add-result-2 : goal.overflow_add-result-2
overflow_add-result-2 c =
    let f = fits (goal.at.overflow_add-result-2 c).After-draw_half-2 c.in_ok-y.was in record { fits = omega (arith, f.1, c.well_formed) }

pub returns : goal.returns
returns c = drawn_answer-whole _ _ _ _ (both (goal.at.returns c).After-draw_half-2 c.in_ok-y.was)

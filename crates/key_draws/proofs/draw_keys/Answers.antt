-- `draw_keys` is right because the terms are drawn from the octets after those of u_x and u_y, and behind their words.
-- Assumes nothing.
use Rattle.std.proofs.Common.{◌≡◌, ◌+◌, ◌*◌, ◌≤◌, length, ℕ, sym, ap, ap₂, ◌∙◌, arith}
use Rattle.definitions.specs.Parameters.{qlen, small_length}
use Rattle.definitions.specs.Calls.{half_draws, key_terms, key_draws}
use Rattle.definitions.proofs.Parameters.{accepted-set}
use Rattle.parameters.specs.Answers.{set_from}
use Rattle.std.proofs.lemmas.Result.{err_from_is_err_and}
use Rattle.draws.proofs.Runs.{said_complete, said-exhausted}
use Rattle.key_draws.specs.Keys.{words_halves, words_drawn}
use Rattle.key_draws.proofs.Words.{terms-front, halves_kept, key_words}
use Rattle.key_draws.proofs.Draws.{enough_of, octets-room, start_used, terms_behind, used-room, keys_ended_halves, keys_ended_terms, keys_whole}
use Rattle.key_draws.proofs.draw_keys.Goals as goal
use Rattle.key_draws.proofs.draw_keys.Goals.{After-draw_halves, After-small_length, After-draw_terms, After-octets_of_coefficient}

-- ---- what was drawn

secret : (c : After-small_length)
    → half_draws (set_from c.args.p) c.args.random.now
    ≡ enough_of (words_halves (set_from c.args.p) c.draw_halves.new.work) c.in_ok-secret.secret.groups c.in_ok-secret.secret.dropped
secret c = said_complete _ _ c.in_ok-secret.was c.draw_halves.ensures

-- the octets of the secret, dropped elements included
taken : (c : After-small_length) → c.small_length.result * c.in_ok-secret.secret.groups ≡ small_length (set_from c.args.p) * c.in_ok-secret.secret.groups
taken c = ap (λ (m : ℕ). m * c.in_ok-secret.secret.groups) c.small_length.ensures

start-room : (c : After-small_length) → c.small_length.result * c.in_ok-secret.secret.groups ≤ length c.args.random.now
start-room c = rw (taken c) (octets-room (set_from c.args.p) 2 c.args.random.now (secret c))

-- with the terms behind it
both : (c : After-octets_of_coefficient)
    → half_draws (set_from c.args.p) c.args.random.now
    ≡ enough_of (words_halves (set_from c.args.p) c.draw_terms.new.work) c.in_ok-secret.secret.groups c.in_ok-secret.secret.dropped
both c =
    said_complete _ _ c.in_ok-secret.was c.draw_halves.ensures
    ∙ ap (λ v. enough_of v c.in_ok-secret.secret.groups c.in_ok-secret.secret.dropped)
    (sym (halves_kept (set_from c.args.p) c.draw_halves.new.work _ c.draw_terms.ensures.work_kept))

others : (c : After-octets_of_coefficient)
    → key_draws (set_from c.args.p) c.args.random.now
    ≡ enough_of (words_drawn (set_from c.args.p) c.draw_terms.new.work) c.in_ok-terms.terms.groups c.in_ok-terms.terms.dropped
others c =
    sym (terms_behind (set_from c.args.p) c.args.random.now (said_complete _ _ c.in_ok-secret.was c.draw_halves.ensures) c.small_length.ensures)
    ∙ said_complete _ _ c.in_ok-terms.was c.draw_terms.ensures.drawn

-- the octets used
octets : (c : After-octets_of_coefficient)
    → c.small_length.result * c.in_ok-secret.secret.groups + c.octets_of_coefficient.result * c.in_ok-terms.terms.groups
    ≡ small_length (set_from c.args.p) * c.in_ok-secret.secret.groups + qlen c.args.p.set.q * c.in_ok-terms.terms.groups
octets c =
    ap₂ ◌+◌ (ap (λ (m : ℕ). m * c.in_ok-secret.secret.groups) c.small_length.ensures)
    (ap (λ (m : ℕ). m * c.in_ok-terms.terms.groups) c.octets_of_coefficient.ensures)

sized : (c : After-octets_of_coefficient) → length c.draw_terms.new.work ≡ 8 * c.args.p.set.n
sized c = c.draw_terms.auto.work ∙ c.draw_halves.auto.work ∙ c.requires

room : (c : After-octets_of_coefficient)
    → c.small_length.result * c.in_ok-secret.secret.groups + c.octets_of_coefficient.result * c.in_ok-terms.terms.groups ≤ length c.args.random.now
room c =
    rw (octets c)
    (used-room (set_from c.args.p) c.args.random.now c.in_ok-secret.secret.groups
    (start_used (set_from c.args.p) c.args.random.now (said_complete _ _ c.in_ok-secret.was c.draw_halves.ensures)) (others c))

-- ---- goals

pub returns-in_err-secret-clause-drawn : goal.returns-in_err-secret-clause-drawn
returns-in_err-secret-clause-drawn c =
    let same = err_from_is_err_and c.from_residual.result c.from_residual.ensures.1 in
    rw (same.1, same.2) (keys_ended_halves (set_from c.args.p) _ (said-exhausted _ _ c.in_err-secret.was c.draw_halves.ensures))

pub returns-in_err-terms-clause-drawn : goal.returns-in_err-terms-clause-drawn
returns-in_err-terms-clause-drawn c =
    let same = err_from_is_err_and c.from_residual-in_err-terms.result c.from_residual-in_err-terms.ensures.1 in
    rw (same.1, same.2) (keys_ended_terms (set_from c.args.p) _ (said-exhausted _ _ c.in_err-terms.was
    (rw (terms_behind (set_from c.args.p) c.args.random.now (secret (goal.at.returns-in_err-terms-clause-drawn c).After-small_length) c.small_length.ensures)
    at c.draw_terms.ensures.drawn)))

pub returns-clause-drawn : goal.returns-clause-drawn
returns-clause-drawn c =
    let o = (goal.at.returns-clause-drawn c).After-octets_of_coefficient in
    keys_whole (set_from c.args.p) c.args.random.now _ (both o) (others o)
    (terms-front (set_from c.args.p) (accepted-set (set_from c.args.p) c.args.p.accepted) _ (sized o)) (octets o)

pub returns-clause-ready : goal.returns-clause-ready
returns-clause-ready c =
    let o = (goal.at.returns-clause-ready c).After-octets_of_coefficient in
    let p = set_from c.args.p in
    key_words p c.args.random.now _ (accepted-set p c.args.p.accepted) (sized o) (both o)
    (sym (terms-front p (accepted-set p c.args.p.accepted) _ (sized o)) ∙ ap (key_terms p) (sym (others o)))

pub overflow_mul-start : goal.overflow_mul-start
overflow_mul-start c =
    let s = (goal.at.overflow_mul-start c).After-small_length in
    record { fits = omega (arith, start-room s, c.well_formed) }

pub slice_bounds-draw_terms-count : goal.slice_bounds-draw_terms-count
slice_bounds-draw_terms-count c = start-room (goal.at.slice_bounds-draw_terms-count c).After-small_length

pub slice_bounds-draw_terms-start : goal.slice_bounds-draw_terms-start
slice_bounds-draw_terms-start c = start-room (goal.at.slice_bounds-draw_terms-start c).After-small_length

pub overflow_mul-taken : goal.overflow_mul-taken
overflow_mul-taken c = record { fits = omega (arith, room (goal.at.overflow_mul-taken c).After-octets_of_coefficient, c.well_formed) }

pub overflow_add-result : goal.overflow_add-result
overflow_add-result c = record { fits = omega (arith, room (goal.at.overflow_add-result c).After-octets_of_coefficient, c.well_formed) }

-- `conversions::pack` is right because it makes the tests of the definition in their order, and packs where all pass.
-- Assumes nothing.
use Rattle.std.proofs.Common.{refl, arith, ◌∙◌, ◌≡◌, ◌≤◌, true, ◌*◌, length}
use mathlib.Core.Bool.{◌&&◌}
use lib.Dec.{eqb}
use Rattle.std.proofs.lemmas.Result.{err_from_is_err_and}
use Rattle.definitions.specs.Parameters.{small_length}
use Rattle.definitions.specs.Conversions.{conversion_leaves, packed_to_answer, packed_to_exit}
use Rattle.definitions.proofs.Exits.{exit_length}
use Rattle.parameters.specs.Answers.{set_from}
use Rattle.parameters.proofs.Answers.{refusal-some}
use Rattle.parameters.proofs.Bounds.{small_bits-within}
use Rattle.judging.specs.Reading.{fit_number}
use Rattle.conversions.proofs.Parts.{exact-told, exact_swapped, small_number, small_fits, leaves_refused, leaves_accepted, times_fits, small_length-most}
use Rattle.conversions.proofs.pack.Goals as goal
use Rattle.conversions.proofs.pack.Goals.{After-lengths_exact, Else-not-lengths_exact}

pub overflow_mul-size : goal.overflow_mul-size
overflow_mul-size c =
    let most : c.small_length.result ≤ 4294967295 = rw c.small_length.ensures (small_length-most (set_from c.args.p) (omega arith)) in
    record { fits = times_fits most (omega arith) }

-- both comparisons, in the definition's order
swapped : (c : After-lengths_exact) → let a = c.args in
    (eqb (length a.words.now) (a.elements * a.p.set.n) && eqb (length a.octets.now) (a.elements * small_length (set_from a.p))) ≡ c.lengths_exact.result
swapped c =
    let a = c.args in
    exact_swapped (length a.octets.now) (a.elements * small_length (set_from a.p)) (length a.words.now) (a.elements * a.p.set.n)
    (rw c.small_length.ensures at c.lengths_exact.ensures)

exact : (c : Else-not-lengths_exact) → let a = c.args in
    (eqb (length a.words.now) (a.elements * a.p.set.n) && eqb (length a.octets.now) (a.elements * small_length (set_from a.p))) ≡ true
exact c = swapped (goal.at.Else-not-lengths_exact c).After-lengths_exact ∙ c.if-not-lengths_exact.false

pub returns-then-not-lengths_exact : goal.returns-then-not-lengths_exact
unfolding packed_to_exit packed_to_answer
returns-then-not-lengths_exact c =
    exit_length (λ x. conversion_leaves x c.args.octets.now) (set_from c.args.p) _ _ _ c.args.p.accepted
    (swapped (goal.at.returns-then-not-lengths_exact c).After-lengths_exact ∙ c.if-not-lengths_exact.true)

pub judge_small-requires : goal.judge_small-requires
judge_small-requires c = rw c.bits.ensures (small_bits-within _).most

pub returns-in_err-judge_small : goal.returns-in_err-judge_small
unfolding packed_to_exit packed_to_answer fit_number
returns-in_err-judge_small c =
    let a = c.args in
    let same = err_from_is_err_and c.from_residual.result c.from_residual.ensures.1 in
    let number = small_number (set_from a.p) a.p.accepted a.words.now c.bits.ensures c.in_err-judge_small.ensures in
    rw (same.1, same.2)
    (leaves_refused (set_from a.p) a.p.accepted _ _ 7 _ _ (exact (goal.at.returns-in_err-judge_small c).Else-not-lengths_exact) number (refusal-some _))

pub pack_each-requires : goal.pack_each-requires
pack_each-requires c =
    let a = c.args in
    let e = exact-told _ _ _ _ (exact (goal.at.pack_each-requires c).Else-not-lengths_exact) in (
      record { octets-length = e.1; words_length = e.0 },
      small_fits (set_from a.p) a.p.accepted a.words.now c.bits.ensures c.in_ok-judge_small.ensures refl,
    )

pub returns : goal.returns
unfolding packed_to_exit packed_to_answer fit_number
returns c =
    let a = c.args in
    let number = small_number (set_from a.p) a.p.accepted a.words.now c.bits.ensures c.in_ok-judge_small.ensures in
    leaves_accepted (set_from a.p) a.p.accepted _ _ 7 _ _ (exact (goal.at.returns c).Else-not-lengths_exact) number refl c.pack_each.ensures

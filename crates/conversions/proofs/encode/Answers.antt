-- `conversions::encode` is right because it makes the tests of the definition in their order, and encodes where all pass.
-- Assumes nothing.
use Rattle.std.proofs.Common.{refl, ◌∙◌, ◌≡◌, true, ◌*◌, length}
use mathlib.Core.Bool.{◌&&◌}
use lib.Dec.{eqb}
use Rattle.std.proofs.lemmas.Result.{err_from_is_err_and}
use Rattle.definitions.specs.Parameters.{elements_length}
use Rattle.definitions.specs.Conversions.{conversion_leaves, to_octets_answer, to_octets_exit}
use Rattle.definitions.proofs.Exits.{exit_length}
use Rattle.parameters.specs.Answers.{set_from}
use Rattle.parameters.proofs.Answers.{refusal-some}
use Rattle.judging.specs.Reading.{fit_number}
use Rattle.conversions.proofs.Parts.{exact-told, exact_swapped, leaves_refused, leaves_accepted, octets-bounds}
use Rattle.conversions.proofs.encode.Goals as goal
use Rattle.conversions.proofs.encode.Goals.{After-lengths_exact, Else-not-lengths_exact}

-- both comparisons, in the definition's order
swapped : (c : After-lengths_exact) → let a = c.args in
    (eqb (length a.words.now) (a.elements * a.p.set.n) && eqb (length a.octets.now) (elements_length (set_from a.p) a.elements)) ≡ c.lengths_exact.result
swapped c =
    let a = c.args in
    exact_swapped (length a.octets.now) (elements_length (set_from a.p) a.elements) (length a.words.now) (a.elements * a.p.set.n)
    (rw c.elements_length-size.ensures at c.lengths_exact.ensures)

exact : (c : Else-not-lengths_exact) → let a = c.args in
    (eqb (length a.words.now) (a.elements * a.p.set.n) && eqb (length a.octets.now) (elements_length (set_from a.p) a.elements)) ≡ true
exact c = swapped (goal.at.Else-not-lengths_exact c).After-lengths_exact ∙ c.if-not-lengths_exact.false

pub returns-then-not-lengths_exact : goal.returns-then-not-lengths_exact
unfolding to_octets_exit to_octets_answer
returns-then-not-lengths_exact c =
    exit_length (λ x. conversion_leaves x c.args.octets.now) (set_from c.args.p) _ _ _ c.args.p.accepted
    (swapped (goal.at.returns-then-not-lengths_exact c).After-lengths_exact ∙ c.if-not-lengths_exact.true)

pub returns-in_err-judge_words : goal.returns-in_err-judge_words
unfolding to_octets_exit to_octets_answer fit_number
returns-in_err-judge_words c =
    let same = err_from_is_err_and c.from_residual.result c.from_residual.ensures.1 in
    rw (same.1, same.2)
    (leaves_refused (set_from c.args.p) c.args.p.accepted _ _ 7 _ _ (exact (goal.at.returns-in_err-judge_words c).Else-not-lengths_exact)
    c.in_err-judge_words.ensures (refusal-some _))

lengths : (c : Else-not-lengths_exact) → let a = c.args in
    (length a.words.now ≡ a.elements * a.p.set.n) × (length a.octets.now ≡ elements_length (set_from a.p) a.elements)
lengths c = exact-told _ _ _ _ (exact c)

pub encode-requires : goal.encode-requires
unfolding elements_length
encode-requires c =
    let e = lengths (goal.at.encode-requires c).Else-not-lengths_exact in
    let bounds = octets-bounds (set_from c.args.p) c.args.p.accepted in
    rw (c.octets_of_coefficient.ensures, e.0) (bounds.0, bounds.1, e.1)

pub returns : goal.returns
unfolding to_octets_exit to_octets_answer fit_number
returns c =
    leaves_accepted (set_from c.args.p) c.args.p.accepted _ _ 7 _ _ (exact (goal.at.returns c).Else-not-lengths_exact)
    c.in_ok-judge_words.ensures refl (rw c.octets_of_coefficient.ensures at c.encode.ensures)

-- `conversions::decode` is right because it makes the tests of the definition in their order, and decodes where all pass.
-- Assumes nothing.
use Rattle.std.proofs.Common.{refl, sym, ◌∙◌, ◌≡◌, true, ◌*◌, length}
use mathlib.Core.Bool.{◌&&◌}
use lib.Dec.{eqb}
use Rattle.std.proofs.lemmas.Result.{err_from_is_err_and}
use Rattle.definitions.specs.Parameters.{elements_length}
use Rattle.definitions.specs.Calls.{decoded_elements, elements_fit}
use Rattle.definitions.specs.Conversions.{conversion_leaves, from_octets_answer, from_octets_exit}
use Rattle.definitions.proofs.Parameters.{accepted-set}
use Rattle.definitions.proofs.Exits.{exit_length}
use Rattle.parameters.specs.Answers.{set_from}
use Rattle.parameters.proofs.Answers.{refusal-some}
use Rattle.judging.specs.Reading.{fit_number}
use Rattle.judging.proofs.Judged.{judged}
use Rattle.conversions.proofs.Parts.{exact-told, leaves_refused, leaves_accepted, octets-bounds}
use Rattle.conversions.proofs.decode.Goals as goal
use Rattle.conversions.proofs.decode.Goals.{Else-not-lengths_exact}

exact : (c : Else-not-lengths_exact) → let a = c.args in
    (eqb (length a.octets.now) (elements_length (set_from a.p) a.elements) && eqb (length a.words.now) (a.elements * a.p.set.n)) ≡ true
exact c = sym (rw c.elements_length-size.ensures at c.lengths_exact.ensures) ∙ c.if-not-lengths_exact.false

lengths : (c : Else-not-lengths_exact) → let a = c.args in
    (length a.octets.now ≡ elements_length (set_from a.p) a.elements) × (length a.words.now ≡ a.elements * a.p.set.n)
lengths c = exact-told _ _ _ _ (exact c)

pub returns-then-not-lengths_exact : goal.returns-then-not-lengths_exact
unfolding from_octets_exit from_octets_answer
returns-then-not-lengths_exact c =
    exit_length (λ x. conversion_leaves x c.args.words.now) (set_from c.args.p) _ _ _ c.args.p.accepted
    (sym (rw c.elements_length-size.ensures at c.lengths_exact.ensures) ∙ c.if-not-lengths_exact.true)

pub judge-requires : goal.judge-requires
judge-requires c = rw c.octets_of_coefficient-qlen.ensures (octets-bounds (set_from c.args.p) c.args.p.accepted)

pub returns-in_err-judge : goal.returns-in_err-judge
unfolding from_octets_exit from_octets_answer elements_fit fit_number
returns-in_err-judge c =
    let a = c.args in
    let p = set_from a.p in
    let h = (goal.at.returns-in_err-judge c).Else-not-lengths_exact in
    let same = err_from_is_err_and c.from_residual.result c.from_residual.ensures.1 in
    let number =
    judged p (accepted-set p a.p.accepted) a.elements a.octets.now (lengths h).0 c.octets_of_coefficient-qlen.ensures c.in_err-judge.ensures in
    rw (same.1, same.2) (leaves_refused p a.p.accepted _ _ 7 _ _ (exact h) number (refusal-some _))

pub decode-requires : goal.decode-requires
unfolding elements_length
decode-requires c =
    let e = lengths (goal.at.decode-requires c).Else-not-lengths_exact in
    let bounds = octets-bounds (set_from c.args.p) c.args.p.accepted in
    rw (c.octets_of_coefficient-qlen.ensures, e.1) (bounds.0, bounds.1, e.0)

pub returns : goal.returns
unfolding from_octets_exit from_octets_answer elements_fit decoded_elements fit_number
returns c =
    let a = c.args in
    let p = set_from a.p in
    let h = (goal.at.returns c).Else-not-lengths_exact in
    let e = lengths h in
    let number = judged p (accepted-set p a.p.accepted) a.elements a.octets.now e.0 c.octets_of_coefficient-qlen.ensures c.in_ok-judge.ensures in
    leaves_accepted p a.p.accepted _ _ 7 _ _ (exact h) number refl (rw (c.octets_of_coefficient-qlen.ensures, e.1) at c.decode.ensures)

-- `conversions::unpack` is right because it makes the tests of the definition in their order, and unpacks where all pass.
-- Assumes nothing.
use Rattle.std.proofs.Common.{refl, sym, arith, ◌∙◌, ◌≡◌, ◌≤◌, true, ◌*◌, length}
use mathlib.Core.Bool.{◌&&◌}
use lib.Dec.{eqb}
use Rattle.std.proofs.lemmas.Result.{err_from_is_err_and}
use Rattle.definitions.specs.Parameters.{small_length}
use Rattle.definitions.specs.Conversions.{conversion_leaves, packed_from_answer, packed_from_exit}
use Rattle.definitions.proofs.Exits.{exit_length}
use Rattle.parameters.specs.Answers.{set_from}
use Rattle.parameters.proofs.Answers.{refusal-some}
use Rattle.conversions.proofs.Parts.{exact-told, leaves_refused, leaves_accepted, times_fits, small_length-most}
use Rattle.conversions.proofs.unpack.Goals as goal
use Rattle.conversions.proofs.unpack.Goals.{Else-not-lengths_exact}

pub overflow_mul-size : goal.overflow_mul-size
overflow_mul-size c =
    let most : c.small_length.result ≤ 4294967295 = rw c.small_length.ensures (small_length-most (set_from c.args.p) (omega arith)) in
    record { fits = times_fits most (omega arith) }

exact : (c : Else-not-lengths_exact) → let a = c.args in
    (eqb (length a.octets.now) (a.elements * small_length (set_from a.p)) && eqb (length a.words.now) (a.elements * a.p.set.n)) ≡ true
exact c = sym (rw c.small_length.ensures at c.lengths_exact.ensures) ∙ c.if-not-lengths_exact.false

pub returns-then-not-lengths_exact : goal.returns-then-not-lengths_exact
unfolding packed_from_exit packed_from_answer
returns-then-not-lengths_exact c =
    exit_length (λ x. conversion_leaves x c.args.words.now) (set_from c.args.p) _ _ _ c.args.p.accepted
    (sym (rw c.small_length.ensures at c.lengths_exact.ensures) ∙ c.if-not-lengths_exact.true)

pub returns-in_err-judge_padding : goal.returns-in_err-judge_padding
unfolding packed_from_exit packed_from_answer
returns-in_err-judge_padding c =
    let same = err_from_is_err_and c.from_residual.result c.from_residual.ensures.1 in
    rw (same.1, same.2)
    (leaves_refused (set_from c.args.p) c.args.p.accepted _ _ 6 _ _ (exact (goal.at.returns-in_err-judge_padding c).Else-not-lengths_exact)
    c.in_err-judge_padding.ensures (refusal-some _))

pub unpack_each-requires : goal.unpack_each-requires
unpack_each-requires c =
    let e = exact-told _ _ _ _ (exact (goal.at.unpack_each-requires c).Else-not-lengths_exact) in
    record { octets-length = e.0; words_length = e.1 }

pub returns : goal.returns
unfolding packed_from_exit packed_from_answer
returns c =
    leaves_accepted (set_from c.args.p) c.args.p.accepted _ _ 6 _ _ (exact (goal.at.returns c).Else-not-lengths_exact)
    c.in_ok-judge_padding.ensures refl c.unpack_each.ensures

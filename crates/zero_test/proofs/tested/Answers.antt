-- `tested` is right because the third part holds the key's value at the secret, and it looks at each of its n words.
-- Assumes nothing.
use Rattle.std.proofs.lemmas.Result.{err_from_is_err_and}
use Rattle.std.proofs.Common.{refl, ap, Bool, cond, ◌≡◌, ◌*◌, length, ◌∙◌, arith}
use Rattle.definitions.specs.Parameters.{work_length}
use Rattle.parameters.proofs.Answers.{refusal-some}
use Rattle.zero_test.proofs.Laws.{bool_number, tested-refused, tested-accepted}
use Rattle.zero_test.proofs.tested.Goals as goal

pub vanishes-requires : goal.vanishes-requires
unfolding work_length
vanishes-requires c =
    let room : length c.value.new.work ≡ 8 * c.args.p.set.n = c.value.auto.work ∙ c.requires.work-length in
    omega arith

pub returns-in_err-value : goal.returns-in_err-value
returns-in_err-value c =
    let same = err_from_is_err_and c.from_residual.result c.from_residual.ensures.1 in
    rw (same.1, same.2) (tested-refused _ _ _ c.in_err-value.ensures _ (refusal-some _))

pub returns : goal.returns
returns c = tested-accepted _ _ _ c.in_ok-value.ensures _ refl (bool_number _ ∙ ap (λ (t : Bool). cond t 1 0) c.vanishes.ensures)

-- `decrypted` is right because the third part holds w, whose message is written after the last test alone.
-- Assumes nothing.
use Rattle.std.proofs.Common.{refl}
use Rattle.std.proofs.lemmas.Result.{err_from_is_err_and}
use Rattle.parameters.proofs.Answers.{refusal-some}
use Rattle.decryption.proofs.Laws.{decrypted-refused, decrypted-message}
use Rattle.decryption.proofs.decrypted.Goals as goal

pub returns-in_err-value : goal.returns-in_err-value
returns-in_err-value c =
    let same = err_from_is_err_and c.from_residual.result c.from_residual.ensures.1 in
    rw (same.1, same.2) (decrypted-refused _ _ _ c.in_err-value.ensures _ (refusal-some _))

pub returns : goal.returns
returns c = decrypted-message _ _ _ c.in_ok-value.ensures refl _ c.write_message.ensures

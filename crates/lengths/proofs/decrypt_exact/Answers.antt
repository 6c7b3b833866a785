-- `decrypt_exact` compares each length with the set's, as `decrypt_exact` does.
-- Assumes nothing.
use Rattle.definitions.specs.Calls.{decrypt_exact}
use Rattle.definitions.proofs.Parameters.{accepted-set, key-degree-most, mask-degree-most}
use Rattle.lengths.proofs.decrypt_exact.Goals as goal

pub ciphertext_length-requires : goal.ciphertext_length-requires
ciphertext_length-requires c = let set = accepted-set _ c.args.p.accepted in record { dx_bound = key-degree-most _ set; dr_bound = mask-degree-most _ set }

pub returns : goal.returns
unfolding decrypt_exact
returns c = rw (c.message_length.ensures, c.work_length.ensures, c.secret_length.ensures, c.ciphertext_length.ensures)

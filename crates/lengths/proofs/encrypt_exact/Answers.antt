-- `encrypt_exact` compares each length with the set's, as `encrypt_exact` does.
-- Assumes nothing.
use Rattle.definitions.specs.Calls.{encrypt_exact}
use Rattle.definitions.proofs.Parameters.{accepted-set, key-degree-most, mask-degree-most}
use Rattle.lengths.proofs.encrypt_exact.Goals as goal

pub ciphertext_length-requires : goal.ciphertext_length-requires
ciphertext_length-requires c = let set = accepted-set _ c.args.p.accepted in record { dx_bound = key-degree-most _ set; dr_bound = mask-degree-most _ set }

pub public_length-requires : goal.public_length-requires
public_length-requires c = key-degree-most _ (accepted-set _ c.args.p.accepted)

pub returns : goal.returns
unfolding encrypt_exact
returns c = rw (c.ciphertext_length.ensures, c.work_length.ensures, c.public_length.ensures, c.message_length.ensures)

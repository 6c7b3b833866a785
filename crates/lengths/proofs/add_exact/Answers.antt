-- `add_exact` compares each length with the set's, as `add_exact` does.
-- Assumes nothing.
use Rattle.definitions.specs.Calls.{add_exact}
use Rattle.definitions.proofs.Parameters.{accepted-set, key-degree-most, mask-degree-most}
use Rattle.lengths.proofs.add_exact.Goals as goal

pub ciphertext_length-length-requires : goal.ciphertext_length-length-requires
ciphertext_length-length-requires c = let set = accepted-set _ c.args.p.accepted in record { dx_bound = key-degree-most _ set; dr_bound = mask-degree-most _ set }

pub returns : goal.returns
unfolding add_exact
returns c = rw c.ciphertext_length-length.ensures

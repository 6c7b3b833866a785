-- `keys_exact` compares each length with the set's, as `keys_exact` does.
-- Assumes nothing.
use Rattle.definitions.specs.Calls.{keys_exact}
use Rattle.definitions.proofs.Parameters.{accepted-set, key-degree-most}
use Rattle.lengths.proofs.keys_exact.Goals as goal

pub public_length-requires : goal.public_length-requires
public_length-requires c = key-degree-most _ (accepted-set _ c.args.p.accepted)

pub returns : goal.returns
unfolding keys_exact
returns c = rw (c.secret_length.ensures, c.public_length.ensures, c.work_length.ensures)

-- `ring::sum` meets its contract: its formula is the sum modulo q, and no step of it wraps.
-- Assumes nothing.
use Rattle.ring.specs.Coefficients.{shift_sum}
use Rattle.ring.proofs.Coefficients.{shift_sum-modulo}
use Rattle.ring.proofs.sum.Goals as goal

pub returns : goal.returns
unfolding shift_sum
returns c = shift_sum-modulo c.args.q c.args.a c.args.b c.requires.0 c.requires.1 c.requires.2

-- `full_degree` looks at the two top coefficients, which are among the words: n is 2 at least.
-- Assumes nothing.
use Rattle.std.proofs.Common.{arith}
use Rattle.definitions.proofs.Parameters.{accepted-set}
use Rattle.secrets.proofs.full_degree.Goals as goal

pub overflow_sub-top : goal.overflow_sub-top
overflow_sub-top c = omega (arith, (accepted-set _ c.args.p.accepted).ring_least)

pub bounds-work-top : goal.bounds-work-top
bounds-work-top c = omega (arith, (accepted-set _ c.args.p.accepted).ring_least)

pub bounds-work-n : goal.bounds-work-n
bounds-work-n c = omega (arith, (accepted-set _ c.args.p.accepted).ring_least)

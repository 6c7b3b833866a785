-- The sums before k are put together and reduced.
-- Assumes nothing.
use Rattle.std.proofs.Common.{◌+◌, ◌*◌, ◌%◌, get_or}
use Rattle.ring.proofs.Work.{WritingWords}
use Rattle.rows.proofs.reduce_cut.Given as goal

abbrev pub invariant-loop-k : goal.invariant-loop-k
invariant-loop-k l =
    WritingWords 0 l.n (λ j. (get_or l.low j 0 + 4398046511104 * get_or l.high j 0) % l.modulus.q) l.initial.product l.k l.product

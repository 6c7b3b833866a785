-- `evaluate` takes a row a turn, one power of y lower each time.
-- Assumes nothing.
use Rattle.std.proofs.Common.{◌+◌, ◌*◌}
use Rattle.definitions.specs.Calls.{polynomial_in}
use Rattle.ring.specs.Work.{part}
use Rattle.values.specs.Horner.{row_of, fits_at, row_fits}
use Rattle.values.proofs.Loops.{HornerAt}
use Rattle.values.proofs.evaluate.Given as goal

abbrev pub invariant-loop-t : goal.invariant-loop-t
invariant-loop-t l =
    HornerAt l.n l.q (2 * l.n) l.n (row_of l.n l.d (polynomial_in l.n l.qlen l.octets) (part l.initial.work 0))
    (row_fits l.d (fits_at l.q l.n l.qlen l.octets)) l.initial.work l.t l.work

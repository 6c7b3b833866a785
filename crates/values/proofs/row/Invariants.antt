-- `row` takes a term of the row a turn, one total degree lower each time.
-- Assumes nothing.
use Rattle.std.proofs.Common.{◌≡◌, ◌+◌, ◌*◌}
use Rattle.definitions.specs.Calls.{polynomial_in}
use Rattle.values.specs.Horner.{starts, term_place, fits_at}
use Rattle.values.proofs.Loops.{HornerAt}
use Rattle.values.proofs.row.Given as goal

abbrev pub invariant-loop-s : goal.invariant-loop-s
invariant-loop-s l =
    (l.first ≡ starts l.d l.s)
    × HornerAt l.n l.q (3 * l.n) 0 (λ i. polynomial_in l.n l.qlen l.octets (term_place l.d l.t i))
    (λ i. fits_at l.q l.n l.qlen l.octets (term_place l.d l.t i)) l.initial.work l.s l.work

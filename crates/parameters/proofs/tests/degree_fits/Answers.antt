-- `degree_fits` tests both degrees.
-- Assumes nothing.
use Rattle.definitions.specs.Parameters.{degree_fits}
use Rattle.parameters.proofs.tests.degree_fits.Goals as goal

pub returns : goal.returns
unfolding degree_fits
returns c = rw (c.is_degree.ensures, c.is_degree-2.ensures)

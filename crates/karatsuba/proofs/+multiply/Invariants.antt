-- A product at a level calls itself a level below: the measure is the levels.
-- Assumes nothing.
use Rattle.karatsuba.proofs.+multiply.Given as goal

abbrev pub decreases-multiply : goal.decreases-multiply
decreases-multiply l = l.h.levels

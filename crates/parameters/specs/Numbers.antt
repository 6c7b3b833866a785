-- 01's set that a caller's numbers name.
-- Assumes nothing.
use Rattle.definitions.specs.Parameters.{Parameters}
use Rattle.parameters.specs.declared.SetNumbers.{SetNumbers}

abbrev pub numbers_from : SetNumbers → Parameters
numbers_from s = record { l = s.l; q = s.q; n = s.n; dx = s.dx; dr = s.dr; mlen = s.mlen; edition = s.edition }

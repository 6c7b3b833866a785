-- 01, "Ring, monomials, octets", second paragraph: the monomial behind the declared pair of exponents.
--
--   monomial_from     the monomial that the pair's two exponents name
-- Assumes nothing.
use Rattle.definitions.specs.Monomials.{Monomial}
use Rattle.monomials.specs.declared.Exponents.{Exponents}

abbrev pub monomial_from : Exponents → Monomial
monomial_from e = record { x = e.x; y = e.y }

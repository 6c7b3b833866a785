-- `conversions::unpack_each` is right because each turn fills the next element's words from its octets.
-- Assumes nothing.
use Rattle.definitions.specs.Octets.{unpacked}
use Rattle.definitions.specs.Conversions.{chunk}
use Rattle.conversions.proofs.Parts.{Filled}
use Rattle.conversions.proofs.unpack_each.Given as goal

abbrev pub invariant-loop-i : goal.invariant-loop-i
invariant-loop-i l = Filled l.n l.elements (λ j. unpacked l.b l.n (chunk l.len l.octets j)) l.i l.words

-- `conversions::pack_each` is right because each turn fills the next element's octets from its words.
-- Assumes nothing.
use Rattle.definitions.specs.Octets.{packed}
use Rattle.definitions.specs.Conversions.{chunk}
use Rattle.conversions.proofs.Parts.{Filled}
use Rattle.conversions.proofs.pack_each.Given as goal

abbrev pub invariant-loop-i : goal.invariant-loop-i
invariant-loop-i l = Filled l.len l.elements (λ j. packed l.b l.len (chunk l.n l.words j)) l.i l.octets

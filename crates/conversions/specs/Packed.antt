-- 01, "What the library does": so many packed small elements, end to end, as the steps of their conversions see them.
--
--   PackedLengths    octets and words that have the lengths of so many packed elements
--   each_unpacked     the words of each, unpacked from its octets;  each_packed: the octets of each, packed from its words
-- Assumes nothing.
use Rattle.std.specs.Prelude.{ℕ, ◌*◌, ◌≡◌, List, length}
use Rattle.definitions.specs.Sequences.{tabulate, joined}
use Rattle.definitions.specs.Parameters.{Parameters, small_bits, small_length}
use Rattle.definitions.specs.Octets.{unpacked, packed}
use Rattle.definitions.specs.Conversions.{chunk}

pub record PackedLengths (p : Parameters) (elements : ℕ) (octets words : List ℕ) : Type 0 where
  pub octets-length : length octets ≡ elements * small_length p
  pub words_length : length words ≡ elements * p.n

abbrev pub each_unpacked : Parameters → ℕ → List ℕ → List ℕ
each_unpacked p elements octets = joined (tabulate elements (λ i. unpacked (small_bits p.l) p.n (chunk (small_length p) octets i)))

abbrev pub each_packed : Parameters → ℕ → List ℕ → List ℕ
each_packed p elements words = joined (tabulate elements (λ i. packed (small_bits p.l) (small_length p) (chunk p.n words i)))

-- A text by its first separator, by which lines and fields are found.
--
--   up_to             the octets before the first separator; all of them where there is none
--   past             the octets after the first separator; none where there is none
--   Without          a text that has no separator
-- Assumes nothing.
use Rattle.std.specs.Prelude.{ℕ, ◌≡◌, cond, [], ◌∷◌, eqb}
use Rattle.definitions.specs.Roomsheet.{Text}

unfoldable pub up_to : ℕ → Text → Text
up_to separator [] = []
up_to separator (c ∷ text) = cond (eqb c separator) [] (c ∷ up_to separator text)

unfoldable pub past : ℕ → Text → Text
past separator [] = []
past separator (c ∷ text) = cond (eqb c separator) text (past separator text)

abbrev pub Without : ℕ → Text → Type 0
Without separator text = up_to separator text ≡ text

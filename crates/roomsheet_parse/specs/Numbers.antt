-- What reading a number, or a line of numbers, finds.
--
--   digits_fit        digits that write at most 4,294,967,295
--   field_at          the octets of a line from a place to the next space or the end
--   Finds            what reading the field at a place tells, by a test of fields: Some: that it fits, its number and the place past it;
--                    None: that it does not fit
--   NumbersRead      reading a line with room for some numbers: how many it has, within the room, which is the one count that it is well formed
--                    with, and its numbers in front, with what is behind them left free; None where it is well formed with no count within
--                    the room
-- Assumes nothing.
use Rattle.std.specs.Prelude.{ℕ, ◌+◌, ◌≤◌, ◌≡◌, Bool, true, false, ◌&&◌, List, Option, Some, None, eqb, leb, length, get_or, take, drop}
use Rattle.definitions.specs.Sequences.{every}
use Rattle.definitions.specs.Roomsheet.{Text, is_digit, decimal, well_formed, numbers_of}
use Rattle.roomsheet_parse.specs.Parts.{up_to}
use Rattle.roomsheet_parse.specs.declared.Number.{Number}

unfoldable pub digits_fit : Text → Bool
digits_fit field = every (length field) (λ i. is_digit (get_or field i 0)) && leb (decimal field) 4294967295

abbrev pub field_at : Text → ℕ → Text
field_at line at = up_to 32 (drop at line)

abbrev pub Finds : (Text → Bool) → Text → ℕ → Option Number → Type 0
Finds fits line at (Some n) =
    (fits (field_at line at) ≡ true) × (n.value ≡ decimal (field_at line at)) × (n.next ≡ at + length (field_at line at))
Finds fits line at None = fits (field_at line at) ≡ false

abbrev pub NumbersRead : ℕ → Text → Option ℕ → List ℕ → Type 0
NumbersRead room line (Some count) numbers =
    (count ≤ room) × ((n : ℕ) → eqb count n ≡ well_formed n line) × (take count numbers ≡ numbers_of line)
NumbersRead room line None numbers = (n : ℕ) → n ≤ room → well_formed n line ≡ false

-- What stands in front of the input buffer between reads, and what a run writes.
--
--   KeptLine         so many octets of a line that is not ended, at most 81
--   ReadSome         octets read behind those kept, which stay
--   AnsweredInto     what was written for some input, where what is written is known, and the input still to be answered
-- Assumes nothing.
use Rattle.std.specs.Prelude.{ℕ, ◌+◌, ◌≤◌, ◌≡◌, List, Option, length, take}
use Rattle.std.specs.Io.KnownBytes.{Appends}
use Rattle.definitions.specs.Roomsheet.{Text}
use Rattle.roomsheet_parse.specs.Parts.{Without}
use Rattle.roomsheet_lines.specs.Answered.{Answered}

pub record KeptLine (input : List ℕ) (kept : ℕ) : Type 0 where
  pub within : kept ≤ length input
  pub short : kept ≤ 81
  pub unended : Without 10 (take kept input)

pub record ReadSome (before : List ℕ) (kept more : ℕ) (after : List ℕ) : Type 0 where
  pub within : kept + more ≤ length after
  pub stays : take kept after ≡ take kept before

pub record AnsweredInto (input : Text) (first now : Option Text) (rest : Text) : Type 0 where
  pub printed : Text
  pub written : Appends first now printed
  pub answered : Answered input printed rest

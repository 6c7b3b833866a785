-- What is written behind what a buffer holds.
--
--   Appended         the same buffer holds more text behind what was written
-- Assumes nothing.
use Rattle.std.specs.Prelude.{◌+◌, ◌≡◌, ◌++◌, length, take}
use Rattle.definitions.specs.Roomsheet.{Text}
use Rattle.roomsheet_print.specs.declared.Answers.{Answers}

pub record Appended (before after : Answers) (text : Text) : Type 0 where
  pub held : take after.at after.out.now ≡ take before.at before.out.now ++ text
  pub end_is : after.at ≡ before.at + length text
  pub room : length after.out.now ≡ length before.out.now
  pub same_reference : after.out.ghost_name ≡ before.out.ghost_name

-- What is printed for a text, line by line and however it is cut, and what is left to answer.
--
--   Answered         the text printed for some input, and the input still to be answered: whatever comes later, roomsheet prints the one,
--                    then what it prints for the other
--   LinesAnswered    what answering the ended lines of a text leaves: octets used and written, and whether no ended line is left; with room
--                    for an answer some line is answered before it stops
--   Keeps            how many octets are kept of the rest: all, or 81 of a line without its end, which show it malformed
--   ChunkAnswered    the same of a buffer whose front is the text: what it keeps stands in front again, at most 81 octets once it is done
--   Run              a whole run: after some pending octets, chunk after chunk, then the end
-- Assumes nothing.
use Rattle.std.specs.Prelude.{ℕ, ◌≤◌, ◌<◌, ◌≡◌, ◌⊎◌, Bool, true, false, List, [], ◌∷◌, ◌++◌, length, take, drop}
use Rattle.definitions.specs.Roomsheet.{Text, roomsheet}
use Rattle.roomsheet_parse.specs.Parts.{Without}
use Rattle.roomsheet_lines.specs.declared.Lines.{Lines}
use Rattle.roomsheet_lines.specs.declared.Chunk.{Chunk}

pub record Answered (input printed rest : Text) : Type 0 where
  pub whatever : (later : Text) → roomsheet (input ++ later) ≡ printed ++ roomsheet (rest ++ later)

pub record LinesAnswered (text : Text) (r : Lines) (out : List ℕ) : Type 0 where
  pub used_le : r.used ≤ length text
  pub written-le : r.written ≤ length out
  pub answered : Answered text (take r.written out) (drop r.used text)
  pub unended : r.done ≡ true → Without 10 (drop r.used text)
  pub onward : r.done ≡ false → 33 ≤ length out → 0 < r.used

pub record Keeps (done : Bool) (rest kept : ℕ) : Type 0 where
  pub within : kept ≤ rest
  pub short : done ≡ true → kept ≤ 81
  pub whole : (kept ≡ rest) ⊎ ((done ≡ true) × (kept ≡ 81))

pub record ChunkAnswered (text : Text) (r : Chunk) (after out : List ℕ) : Type 0 where
  pub kept-le : r.kept ≤ length text
  pub written-le : r.written ≤ length out
  pub answered : Answered text (take r.written out) (take r.kept after)
  pub unended : r.done ≡ true → Without 10 (take r.kept after)
  pub short : r.done ≡ true → r.kept ≤ 81
  pub onward : r.done ≡ false → 33 ≤ length out → r.kept < length text

pub data Run : Text → List Text → Text → Type 0 where
  ended : {pending printed : Text} → printed ≡ roomsheet pending → Run pending [] printed
  fed : {pending chunk printed rest later : Text} {chunks : List Text} → Answered (pending ++ chunk) printed rest → Run rest chunks later → Run pending (chunk ∷ chunks) (printed ++ later)

-- What the loops over the lines of a text and over a buffer keep, and what is kept of a chunk.
--
--   Answering            where the lines up to a place are answered;  answering_start, -next, -done: where it begins, a line on, and
--                        that no ended line is left;  stopped_..: what is told where it stops
--   last_answered         what a last line leaves
--   moved_front           the octets that are moved to the front
--   chunk-..             what is kept of a chunk stands for what is left of it
-- Assumes nothing.
use Prim.Native.Nat.{ℕ, suc, ◌+◌, ◌-◌, ◌≤◌, ◌<◌}
use native.Mathlib.Nat.{pos_of_ne-zero, zero-add}
use native.Mathlib.Omega.{arith}
use mathlib.Core.Path.{◌≡◌, refl, sym, ap, ◌∙◌}
use mathlib.Core.Logic.{⊎_elim}
use mathlib.Core.Bool.{Bool, true, false, true≢false, false≢true}
use mathlib.Core.List.{List, [], append-nil}
use lib.ListN.{length, take, drop, length-drop, take-append-drop}
use lib.Seq.{length-take-le, take_all, take-append-le, drop-append-le, drop-drop}
use Rattle.std.specs.List.{copy_within}
use Rattle.std.proofs.lemmas.List.Edits.{take-paste}
use Rattle.definitions.specs.Roomsheet.{Text, roomsheet}
use Rattle.roomsheet_parse.specs.Parts.{up_to, past, Without}
use Rattle.roomsheet_parse.proofs.Parts.{length-up_to, take-up_to, past-drop, up_to-whole, without_take}
use Rattle.roomsheet_print.specs.declared.Answers.{Answers}
use Rattle.roomsheet_print.specs.Appended.{Appended}
use Rattle.roomsheet_lines.specs.Answered.{Answered, LinesAnswered, Keeps, ChunkAnswered}
use Rattle.roomsheet_lines.specs.declared.Lines.{Lines}
use Rattle.roomsheet_lines.proofs.Texts.{line_text, answered_none, answered_then, answered-line, answered_cut, roomsheet_last}

pub record Answering (text : List ℕ) (first answers : Answers) (used : ℕ) : Type 0 where
  pub used_le : used ≤ length text
  pub kept : length answers.out.now ≡ length first.out.now
  pub same_reference : answers.out.ghost_name ≡ first.out.ghost_name
  pub answered : Answered text (take answers.at answers.out.now) (drop used text)
  pub fresh : used ≡ 0 → answers.at ≡ 0

pub answering_start : (text : List ℕ) (answers : Answers) → answers.at ≡ 0 → Answering text answers answers 0
answering_start text answers e =
    record { used_le = omega arith; kept = refl; same_reference = refl; answered = rw e (answered_none text); fresh = λ _. e }

module _ (text : List ℕ) (first answers : Answers) (used : ℕ) (a : Answering text first answers used)
    (end : ℕ) (found : end ≡ used + length (up_to 10 (drop used text))) where
  pub end_le : end ≤ length text
  end_le = omega (arith, length-up_to 10 (drop used text), length-drop used text)

  pub answering_done : end ≡ length text → Without 10 (drop used text)
  answering_done e = up_to-whole 10 (drop used text) (omega (arith, length-drop used text))

  module _ (more : end ≡ length text → ⊥) where
    within : length (up_to 10 (drop used text)) < length (drop used text)
    within = omega (arith, end_le, length-drop used text)

    rest_is : past 10 (drop used text) ≡ drop (end + 1) text
    rest_is =
        let place : used + suc (length (up_to 10 (drop used text))) ≡ end + 1 = omega arith in
        past-drop 10 (drop used text) within ∙ drop-drop (suc (length (up_to 10 (drop used text)))) used text ∙ ap (λ (n : ℕ). drop n text) place

    pub line-is : take (end - used) (drop used text) ≡ up_to 10 (drop used text)
    line-is =
        let size : end - used ≡ length (up_to 10 (drop used text)) = omega arith in
        ap (λ (n : ℕ). take n (drop used text)) size ∙ take-up_to 10 (drop used text)

    pub answering_next : (after : Answers) → answers.at + 33 ≤ length answers.out.now
        → Appended answers after (line_text (take (end - used) (drop used text))) → Answering text first after (end + 1)
    answering_next after room appended =
        record {
          used_le = omega (arith, end_le);
          kept = appended.room ∙ a.kept;
          same_reference = appended.same_reference ∙ a.same_reference;
          answered = rw (appended.held, line-is, ← rest_is)
              (answered_then text (drop used text) (past 10 (drop used text)) (take answers.at answers.out.now) (line_text (up_to 10 (drop used text))) a.answered
              (answered-line (drop used text) within));
          fresh = λ e. let z : ⊥ = omega arith in absurd z;
        }

pub length_written : (answers : Answers) (written : List ℕ) → written ≡ take answers.at answers.out.now → length written ≡ answers.at
length_written answers written e = ap length e ∙ length-take-le answers.at answers.out.now answers.within

-- what the loop tells where it stops: with no ended line left, or with too little room, but some line answered
module _ (text : List ℕ) (first answers : Answers) (used : ℕ) (a : Answering text first answers used)
    (written : ℕ) (is : written ≡ answers.at) (out : List ℕ) (same : out ≡ answers.out.now) where
  stopped : (done : Bool) → (done ≡ true → Without 10 (drop used text)) → (done ≡ false → length answers.out.now - answers.at < 33)
      → LinesAnswered text (record { used = used; written = written; done = done }) out
  stopped done none full =
      rw same
      (record {
        used_le = a.used_le;
        written-le = omega (arith, answers.within);
        answered = rw is a.answered;
        unended = none;
        onward = λ e room. pos_of_ne-zero (λ z. let f = a.fresh z in let few = full e in let w : ⊥ = omega arith in w);
      })

  pub stopped_done : Without 10 (drop used text) → LinesAnswered text (record { used = used; written = written; done = true }) out
  stopped_done none = stopped true (λ _. none) (λ e. absurd (true≢false e))

  pub stopped_full : length answers.out.now - answers.at < 33 → LinesAnswered text (record { used = used; written = written; done = false }) out
  stopped_full full = stopped false (λ e. absurd (false≢true e)) (λ _. full)

pub last_answered : (first answers : Answers) (text : Text) → first.at ≡ 0 → Appended first answers (line_text text) → 0 < length text → Without 10 text
    → (written out : List ℕ) → written ≡ take answers.at answers.out.now → out ≡ answers.out.now → take (length written) out ≡ roomsheet text
last_answered first answers text none a some without written out is same =
    rw (same, length_written answers written is, a.held, none) (sym (roomsheet_last text some without))

-- ---- what is kept of a chunk

moved_front : (text : List ℕ) (from count : ℕ) → from + count ≤ length text → take count (copy_within text from (from + count) 0) ≡ take count (drop from text)
moved_front text from count room =
    let size : from + count - from ≡ count = omega arith in
    rw (size, zero-add count) (rw zero-add at (take-paste text 0 (drop from text) count (omega arith) (omega (arith, length-drop from text))))

pub used-within : (text : List ℕ) (have : ℕ) → have ≤ length text → (r : Lines) (out : List ℕ) → LinesAnswered (take have text) r out → r.used ≤ have
used-within text have fits r out a = omega (arith, a, length-take-le have text fits)

module _ (text : List ℕ) (have : ℕ) (fits : have ≤ length text) (r : Lines) (out : List ℕ) (a : LinesAnswered (take have text) r out)
    (k : ℕ) (kept : Keeps r.done (have - r.used) k) where
  pub moved_within : r.used + k ≤ length text
  moved_within = omega (arith, used-within text have fits r out a, kept.within)

  abbrev rest : Text
  rest = drop r.used (take have text)

  length_rest : length rest ≡ have - r.used
  length_rest = length-drop r.used (take have text) ∙ ap (λ (n : ℕ). n - r.used) (length-take-le have text fits)

  -- the octets moved are those of the rest
  take_rest : take k (drop r.used text) ≡ take k rest
  take_rest =
      ap (λ (t : Text). take k (drop r.used t)) (sym (take-append-drop have text))
      ∙ ap (take k) (drop-append-le r.used (take have text) (drop have text) a.used_le)
      ∙ take-append-le k (drop r.used (take have text)) (drop have text) (omega (arith, kept.within, length_rest))

  kept-answered : Answered (take have text) (take r.written out) (take k rest)
  kept-answered =
      ⊎_elim
      (λ e. rw (take_all k rest (omega (arith, length_rest))) a.answered)
      (λ e. rw (e.1, ← append-nil (take r.written out))
      (answered_then (take have text) rest (take 81 rest) (take r.written out) [] a.answered (answered_cut rest (a.unended e.0) (omega (arith, length_rest, kept.within)))))
      kept.whole

  pub chunk-answered : (after : List ℕ) → after ≡ copy_within text r.used (r.used + k) 0
      → ChunkAnswered (take have text) (record { kept = k; written = r.written; done = r.done }) after out
  chunk-answered after copied =
      let moved = ap (take k) copied ∙ moved_front text r.used k moved_within in
      record {
        kept-le = omega (arith, kept.within, length-take-le have text fits);
        written-le = a.written-le;
        answered = rw (moved, take_rest) kept-answered;
        unended = λ d. rw (moved, take_rest) (without_take 10 k rest (a.unended d));
        short = kept.short;
        onward = λ d room. omega (arith, a.onward d room, kept.within, used-within text have fits r out a, length-take-le have text fits);
      }

-- A text is answered line after line, and as a whole however it is cut.
--
--   line_text             an answer and its newline;  line_answer-le, line_text_le: at most 32 octets, and 33
--   roomsheet-line       an ended line is answered first, then the rest;  roomsheet_last: a last line that is not ended, as if it were
--   roomsheet_long       of a line longer than 80 octets the first 81 tell enough
--   answered-..          what was answered, and what is left: nothing yet, one after the other, one line more, and a line cut short
--   run_roomsheet        a whole run prints roomsheet of the whole input, for any list of chunks
-- Assumes nothing.
use Prim.Native.Nat.{ℕ, ◌≤◌, ◌<◌}
use native.Mathlib.Omega.{arith}
use mathlib.Core.Path.{◌≡◌, refl, sym, ap, ap₂, ◌∙◌}
use mathlib.Core.List.{List, [], ◌∷◌, ◌++◌, append-nil, append_assoc}
use lib.ListN.{length, take, length-append}
use lib.Seq.{length-take-le}
use borrow.Author.Tests.{lt-leb}
use Rattle.definitions.specs.Sequences.{joined}
use Rattle.definitions.specs.Roomsheet.{Text, lines_of, decimal_text, well_formed, line_limits, line_answer, roomsheet}
use Rattle.definitions.proofs.Roomsheet.{line_answer_malformed}
use Rattle.roomsheet_parse.specs.Parts.{up_to, past, Without}
use Rattle.roomsheet_parse.proofs.Parts.{up_to_hit, past_hit, up_to-append, past-append, up_to_without, up_to-past, past-whole, without_take, lines_of-cons}
use Rattle.roomsheet_print.proofs.Printing.{limits_text-le}
use Rattle.roomsheet_lines.specs.Answered.{Answered, Run, ended, fed}

-- an answer and its newline
abbrev pub line_text : Text → Text
line_text line = line_answer line ++ (10 ∷ [])

pub line_answer-le : (line : Text) → length (line_answer line) ≤ 32
unfolding line_answer
line_answer-le line = limits_text-le (line_limits line)

pub line_text_le : (line : Text) → length (line_text line) ≤ 33
line_text_le line = omega (arith, line_answer-le line, length-append (line_answer line) (10 ∷ []))

pub roomsheet-nil : roomsheet [] ≡ []
unfolding roomsheet lines_of joined
roomsheet-nil = refl

pub roomsheet-cons : (c : ℕ) (t : Text) → roomsheet (c ∷ t) ≡ line_text (up_to 10 (c ∷ t)) ++ roomsheet (past 10 (c ∷ t))
unfolding roomsheet joined
roomsheet-cons c t = rw (lines_of-cons c t)

-- the first line of a text that starts without a newline
pub roomsheet-first : (c : ℕ) (a t : Text) → Without 10 (c ∷ a) → roomsheet ((c ∷ a) ++ t) ≡ line_text ((c ∷ a) ++ up_to 10 t) ++ roomsheet (past 10 t)
roomsheet-first c a t w =
    roomsheet-cons c (a ++ t)
    ∙ ap₂ (λ (x y : Text). line_text x ++ roomsheet y) (up_to-append 10 (c ∷ a) t w) (past-append 10 (c ∷ a) t w)

pub roomsheet-line : (a t : Text) → Without 10 a → roomsheet (a ++ (10 ∷ t)) ≡ line_text a ++ roomsheet t
roomsheet-line [] t w =
    roomsheet-cons 10 t ∙ ap₂ (λ (x y : Text). line_text x ++ roomsheet y) (up_to_hit t refl) (past_hit t refl)
roomsheet-line (c ∷ a) t w =
    roomsheet-first c a (10 ∷ t) w
    ∙ ap₂ (λ (x y : Text). line_text x ++ roomsheet y) (ap (λ (r : Text). (c ∷ a) ++ r) (up_to_hit t refl) ∙ append-nil (c ∷ a)) (past_hit t refl)

-- ---- what is answered, and what is left

pub answered_none : (t : Text) → Answered t [] t
answered_none t = record { whatever = λ later. refl }

pub answered_then : (a b c u v : Text) → Answered a u b → Answered b v c → Answered a (u ++ v) c
answered_then a b c u v f g =
    record {
      whatever = λ later.
          f.whatever later ∙ ap (λ (r : Text). u ++ r) (g.whatever later) ∙ sym (append_assoc u v (roomsheet (c ++ later)));
    }

pub answered-line : (t : Text) → length (up_to 10 t) < length t → Answered t (line_text (up_to 10 t)) (past 10 t)
answered-line t h =
    record {
      whatever = λ later.
          ap (λ (r : Text). roomsheet (r ++ later)) (up_to-past 10 t h)
          ∙ ap roomsheet (append_assoc (up_to 10 t) (10 ∷ past 10 t) later)
          ∙ roomsheet-line (up_to 10 t) (past 10 t ++ later) (up_to_without 10 t);
    }

pub roomsheet_none : (t : Text) → length t ≡ 0 → roomsheet t ≡ []
roomsheet_none [] e = roomsheet-nil
roomsheet_none (c ∷ t) e = let z : ⊥ = omega arith in absurd z

pub roomsheet_last : (a : Text) → 0 < length a → Without 10 a → roomsheet a ≡ line_text a
roomsheet_last [] h w = let z : ⊥ = omega arith in absurd z
roomsheet_last (c ∷ a) h w =
    roomsheet-cons c a
    ∙ ap₂ (λ (x y : Text). line_text x ++ y) w (ap roomsheet (past-whole 10 (c ∷ a) w) ∙ roomsheet-nil) ∙ append-nil (line_text (c ∷ a))

-- ---- a line that is too long

line_answer_long : (line : Text) → 80 < length line → line_answer line ≡ decimal_text 11
unfolding well_formed
line_answer_long line h = line_answer_malformed line (rw (lt-leb (length line) 80 h))

roomsheet_long : (p t : Text) → Without 10 p → 80 < length p → roomsheet (p ++ t) ≡ (decimal_text 11 ++ (10 ∷ [])) ++ roomsheet (past 10 t)
roomsheet_long [] t w h = let z : ⊥ = omega arith in absurd z
roomsheet_long (c ∷ a) t w h =
    roomsheet-first c a t w
    ∙ ap (λ (x : Text). (x ++ (10 ∷ [])) ++ roomsheet (past 10 t))
    (line_answer_long ((c ∷ a) ++ up_to 10 t) (omega (arith, length-append (c ∷ a) (up_to 10 t))))

-- a line that is not ended, cut after octets that show it malformed
pub answered_cut : (p : Text) → Without 10 p → 81 ≤ length p → Answered p [] (take 81 p)
answered_cut p w h =
    record {
      whatever = λ later.
          roomsheet_long p later w h
          ∙ sym (roomsheet_long (take 81 p) later (without_take 10 81 p w) (omega (arith, length-take-le 81 p h)));
    }

-- ---- a whole run

pub run_roomsheet : {pending : Text} {chunks : List Text} {printed : Text} → Run pending chunks printed → printed ≡ roomsheet (pending ++ joined chunks)
unfolding joined
run_roomsheet (ended {pending} e) = e ∙ ap roomsheet (sym (append-nil pending))
run_roomsheet (fed {pending} {chunk} {printed} {rest} {later} {chunks} a r) =
    ap (λ (x : Text). printed ++ x) (run_roomsheet r) ∙ sym (a.whatever (joined chunks))
    ∙ ap roomsheet (append_assoc pending chunk (joined chunks))

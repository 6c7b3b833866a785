-- The answer to a line, by what was read of it: that of the set which its numbers name, or 11.
--
--   set_of-take           six words or more from the front of some name the same set but for the edition
--   answered-..          the text of what a set's constructor answered is that of the set's answer
--   named_..             the set that a line of six numbers names, or of seven
--   answer_..            the answer to a line that names a set, and to any other
-- Assumes nothing.
use Prim.Native.Nat.{ℕ, ◌≤◌, ◌<◌}
use native.Mathlib.Omega.{arith}
use mathlib.Core.Path.{◌≡◌, sym, ap, ◌∙◌}
use mathlib.Core.Bool.{◌||◌, or-true}
use mathlib.Core.List.{List, []}
use lib.ListN.{length, get_or, take, length-take, get_or-eq_default}
use lib.Seq.{get_or-take, get_or_at, take-suc, length-take-le}
use borrow.Author.Tests.{eq-eqb}
use Rattle.std.specs.Prelude.{IsTrue, Some, Result, Ok, Err}
use Rattle.std.proofs.lemmas.Bool.{false_from_ne_true}
use Rattle.definitions.specs.Refusals.{accepted}
use Rattle.definitions.specs.Parameters.{Parameters, limits_answer, limits_of}
use Rattle.definitions.specs.Roomsheet.{Text, decimal_text, well_formed, numbers_of, set_of, limits_text, line_answer}
use Rattle.definitions.specs.Editions.{in_edition}
use Rattle.definitions.proofs.Roomsheet.{line_answer_malformed, line_answer-set}
use Rattle.parameters.specs.Answers.{set_from, limits_from, set_answer, checked_as}
use Rattle.parameters.specs.declared.Parameters as Struct
use Rattle.parameters.specs.declared.SetLimits.{SetLimits}
use Rattle.parameters.specs.declared.refusals.Refusal.{Refusal}
use Rattle.parameters.specs.Refusals.{refusal_number}
use Rattle.parameters.proofs.Answers.{accepted-answer, refused-answer}
use Rattle.roomsheet_parse.specs.Numbers.{NumbersRead}

set_of-take : (k : ℕ) (x : List ℕ) → 6 ≤ k → set_of (take k x) ≡ in_edition (get_or (take k x) 6 1) (set_of x)
unfolding set_of
set_of-take k x h =
    let word : (i : ℕ) → i < 6 → get_or (take k x) i 0 ≡ get_or x i 0 = λ i l. get_or-take k x i 0 (omega arith) in
    rw (word 0 (omega arith), word 1 (omega arith), word 2 (omega arith), word 3 (omega arith), word 4 (omega arith), word 5 (omega arith))

-- ---- a set

module _ (set : Parameters) {r : Result Struct.Parameters Refusal} (told : checked_as r ≡ set_answer set) where
  pub answered-refused : (k : Refusal) → r ≡ Err k → decimal_text (refusal_number k) ≡ limits_text (limits_answer set)
  unfolding limits_text limits_answer
  answered-refused k same = ap limits_text (refused-answer set told same _)

  pub answered-accepted : (p : Struct.Parameters) → r ≡ Ok p → (x : SetLimits) → limits_from x ≡ limits_of (set_from p)
      → limits_text (accepted (limits_from x)) ≡ limits_text (limits_answer set)
  unfolding limits_answer
  answered-accepted p same x is = ap limits_text (accepted-answer set told same limits_of (limits_from x) is)

-- ---- a line

module _ (line : Text) where
  -- the answer to a line that names a set, and to any other
  pub answer_named : (set : Parameters) → IsTrue (well_formed 6 line || well_formed 7 line) × (set ≡ set_of (numbers_of line))
      → limits_text (limits_answer set) ≡ line_answer line
  answer_named set named = ap (λ (p : Parameters). limits_text (limits_answer p)) named.1 ∙ sym (line_answer-set line named.0)

  pub answer_malformed : (IsTrue (well_formed 6 line || well_formed 7 line) → ⊥) → decimal_text 11 ≡ line_answer line
  answer_malformed none = sym (line_answer_malformed line (false_from_ne_true _ none))

  module _ (read : ℕ) (x : List ℕ) (n : NumbersRead 7 line (Some read) x) where
    -- a line of six or seven numbers names the set of those words
    module _ (set : Parameters) where
      named : (k : ℕ) → 6 ≤ k → read ≡ k → set ≡ in_edition (get_or (take k x) 6 1) (set_of x) → set ≡ set_of (numbers_of line)
      named k h is same = same ∙ sym (set_of-take k x h) ∙ ap set_of (rw is at n.2)

      pub named_six : read ≡ 6 → set ≡ in_edition 1 (set_of x) → IsTrue (well_formed 6 line || well_formed 7 line) × (set ≡ set_of (numbers_of line))
      named_six is same =
          let edition : get_or (take 6 x) 6 1 ≡ 1 = get_or-eq_default (take 6 x) 1 (omega (arith, length-take 6 x)) in
          (rw (sym (n.1 6) ∙ eq-eqb read 6 is), named 6 (omega arith) is (rw edition same))

      pub named_seven : read ≡ 7 → 6 < length x → set ≡ in_edition (get_or x 6 0) (set_of x) → IsTrue (well_formed 6 line || well_formed 7 line) × (set ≡ set_of (numbers_of line))
      named_seven is room same =
          let edition : get_or (take 7 x) 6 1 ≡ get_or x 6 0
          = ap (λ (l : List ℕ). get_or l 6 1) (take-suc x 6 0 room) ∙ get_or_at (take 6 x) (get_or x 6 0) [] 1 6 (length-take-le 6 x (omega arith)) in
          (rw (sym (n.1 7) ∙ eq-eqb read 7 is) (or-true (well_formed 6 line)), named 7 (omega arith) is (rw edition same))

-- 01, "roomsheet", with 02, Q-7: the text that it reads, the grammar of a line, and what it prints.
--
--   Text             octets; newline 10, space 32, digits 48 to 57
--   split            the parts of a text between the separators: one more part than there are separators
--   lines_of          the lines of a text: a newline ends each; a last line without one counts if it is not empty
--   is_number         a field that is a number: digits, no needless leading zero, at most 4,294,967,295
--   decimal          the number that digits write;  decimal_text: the digits of a number below 10^10, decimal_length of them
--   well_formed       whether a line is so many numbers with one space between, in at most 80 octets
--   numbers_of        the numbers of a line
--   set_of            the set that six numbers name, in the order ℓ q n dX dr mlen, in edition 1; a seventh number is the edition (02, Q-7)
--   limits_text       the text of a set's answer: 0, B and s, or the refusal alone
--   line_tests        the tests of a line: its form, six numbers or seven, then its set
--   line_limits       the answer to a line: 11 where it is malformed, otherwise that of its set;  line_answer: the text printed for it
--   roomsheet        the text printed for a text
-- Assumes nothing.
use Rattle.std.specs.Prelude.{ℕ, suc, ◌+◌, ◌-◌, ◌*◌, ◌/◌, ◌%◌, ◌^◌, Bool, cond, ◌&&◌, ◌||◌, not, List, [], ◌∷◌, ◌++◌, map, eqb, leb, length, get_or}
use Rattle.definitions.specs.Sequences.{every, how_many, tabulate, joined}
use Rattle.definitions.specs.Refusals.{Test, refuse, Answer, untouched, refused, accepted, answer}
use Rattle.definitions.specs.Parameters.{Parameters, Limits, set_tests, limits_of}

abbrev pub Text : Type 0
Text = List ℕ

-- an octet at the front of the first of some parts; where there is none, it begins one: so a last line without newline counts
unfoldable pub in_front : ℕ → List Text → List Text
in_front c [] = (c ∷ []) ∷ []
in_front c (part ∷ parts) = (c ∷ part) ∷ parts

unfoldable pub split : ℕ → Text → List Text
split separator [] = [] ∷ []
split separator (c ∷ text) = cond (eqb c separator) ([] ∷ split separator text) (in_front c (split separator text))

unfoldable pub lines_of : Text → List Text
lines_of [] = []
lines_of (c ∷ text) = cond (eqb c 10) ([] ∷ lines_of text) (in_front c (lines_of text))

abbrev pub is_digit : ℕ → Bool
is_digit c = leb 48 c && leb c 57

-- the number that digits write after those that wrote x
unfoldable pub decimal_from : ℕ → Text → ℕ
decimal_from x [] = x
decimal_from x (c ∷ field) = decimal_from (10 * x + (c - 48)) field

unfoldable pub decimal : Text → ℕ
decimal field = decimal_from 0 field

unfoldable pub is_number : Text → Bool
is_number field =
    leb 1 (length field)
    && (every (length field) (λ i. is_digit (get_or field i 0))
    && ((eqb (length field) 1 || leb 49 (get_or field 0 0)) && leb (decimal field) 4294967295))

-- the digits that a number below 10^10 has: one, and one more for each of 10, 100, .. that it reaches
unfoldable pub decimal_length : ℕ → ℕ
decimal_length x = suc (how_many 9 (λ k. leb (10 ^ suc k) x))

unfoldable pub decimal_text : ℕ → Text
decimal_text x = tabulate (decimal_length x) (λ i. 48 + x / 10 ^ (decimal_length x - suc i) % 10)

unfoldable pub well_formed : ℕ → Text → Bool
well_formed count line =
    leb (length line) 80
    && (eqb (length (split 32 line)) count && every count (λ i. is_number (get_or (split 32 line) i [])))

unfoldable pub numbers_of : Text → List ℕ
numbers_of line = map decimal (split 32 line)

unfoldable pub set_of : List ℕ → Parameters
set_of numbers =
    record {
      l = get_or numbers 0 0;
      q = get_or numbers 1 0;
      n = get_or numbers 2 0;
      dx = get_or numbers 3 0;
      dr = get_or numbers 4 0;
      mlen = get_or numbers 5 0;
      edition = get_or numbers 6 1;
    }

unfoldable pub limits_text : Answer Limits → Text
limits_text (untouched k) = decimal_text k
limits_text (refused k) = decimal_text k
limits_text (accepted limits) =
    decimal_text 0 ++ (32 ∷ (decimal_text limits.bound ++ (32 ∷ decimal_text limits.headroom)))

abbrev pub line_tests : Text → List Test
line_tests line = refuse 11 (not (well_formed 6 line || well_formed 7 line)) ∷ set_tests (set_of (numbers_of line))

unfoldable pub line_limits : Text → Answer Limits
line_limits line =
    answer
    (line_tests line)
    []
    (limits_of (set_of (numbers_of line)))

unfoldable pub line_answer : Text → Text
line_answer line = limits_text (line_limits line)

unfoldable pub roomsheet : Text → Text
roomsheet text = joined (map (λ line. line_answer line ++ (10 ∷ [])) (lines_of text))

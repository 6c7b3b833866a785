-- 01, "What the library does": the conversions between octets and coefficient words, with "Refusal table".
--
--   from_octets_answer so many ring elements from octets; to_octets_answer: back
--   chunk            the i-th of parts of one length that stand end to end
--   packed_from_answer so many packed small elements from octets, each with its own unused bits: 1 for a small element, 2 for a secret key;
--                    packed_to_answer: back. Top coefficients are not judged: 02, Q-3 refuses them at opening and at the zero test
--   ..Tests          the tests after the length test of each
--   conversion_leaves the number and the output at exit, from an answer and what the output held before
--   ..Exit           the same from what the call was lent: from_octets_exit, to_octets_exit, packed_from_exit, packed_to_exit
-- Assumes nothing.
use Rattle.std.specs.Prelude.{ℕ, ◌*◌, Bool, ◌&&◌, not, List, [], ◌∷◌, eqb, length, take, drop}
use Rattle.definitions.specs.Sequences.{every, tabulate, joined}
use Rattle.definitions.specs.Refusals.{Test, refuse, Answer, answer, number, output}
use Rattle.definitions.specs.Parameters.{Parameters, small_bits, qlen, small_length, elements_length}
use Rattle.definitions.specs.Octets.{encoded, coefficients_fit, unpacked, packed, padding_clear}
use Rattle.definitions.specs.Calls.{length_tests, elements_fit, decoded_elements}

abbrev pub from_octets_tests : Parameters → ℕ → List ℕ → List Test
from_octets_tests p elements octets = refuse 8 (not (elements_fit p elements octets)) ∷ []

unfoldable pub from_octets_answer : Parameters → ℕ → List ℕ → ℕ → Answer (List ℕ)
from_octets_answer p elements octets words_len =
    answer
    (length_tests p (eqb (length octets) (elements_length p elements) && eqb words_len (elements * p.n)))
    (from_octets_tests p elements octets)
    (decoded_elements p elements octets)

abbrev pub to_octets_tests : Parameters → List ℕ → List Test
to_octets_tests p words = refuse 8 (not (coefficients_fit p.q words)) ∷ []

unfoldable pub to_octets_answer : Parameters → ℕ → List ℕ → ℕ → Answer (List ℕ)
to_octets_answer p elements words octets_len =
    answer
    (length_tests p (eqb (length words) (elements * p.n) && eqb octets_len (elements_length p elements)))
    (to_octets_tests p words)
    (encoded (qlen p.q) words)

abbrev pub chunk : ℕ → List ℕ → ℕ → List ℕ
chunk len list i = take len (drop (i * len) list)

-- whether the unused bits of each packed element are zero
abbrev pub each_bits_clear : Parameters → ℕ → List ℕ → Bool
each_bits_clear p elements octets = every elements (λ i. padding_clear (p.n * small_bits p.l) (chunk (small_length p) octets i))

abbrev pub packed_from_tests : Parameters → ℕ → List ℕ → List Test
packed_from_tests p elements octets = refuse 7 (not (each_bits_clear p elements octets)) ∷ []

unfoldable pub packed_from_answer : Parameters → ℕ → List ℕ → ℕ → Answer (List ℕ)
packed_from_answer p elements octets words_len =
    answer
    (length_tests p (eqb (length octets) (elements * small_length p) && eqb words_len (elements * p.n)))
    (packed_from_tests p elements octets)
    (joined (tabulate elements (λ i. unpacked (small_bits p.l) p.n (chunk (small_length p) octets i))))

abbrev pub packed_to_tests : Parameters → List ℕ → List Test
packed_to_tests p words = refuse 8 (not (coefficients_fit p.l words)) ∷ []

unfoldable pub packed_to_answer : Parameters → ℕ → List ℕ → ℕ → Answer (List ℕ)
packed_to_answer p elements words octets_len =
    answer
    (length_tests p (eqb (length words) (elements * p.n) && eqb octets_len (elements * small_length p)))
    (packed_to_tests p words)
    (joined (tabulate elements (λ i. packed (small_bits p.l) (small_length p) (chunk p.n words i))))

pub record ConversionExit : Type 0 where
  pub refusal : ℕ
  pub converted : List ℕ

abbrev pub conversion_leaves : Answer (List ℕ) → List ℕ → ConversionExit
conversion_leaves a old = record { refusal = number a; converted = output (λ out. out) a old }

unfoldable pub from_octets_exit : Parameters → ℕ → List ℕ → List ℕ → ConversionExit
from_octets_exit p elements octets words = conversion_leaves (from_octets_answer p elements octets (length words)) words

unfoldable pub to_octets_exit : Parameters → ℕ → List ℕ → List ℕ → ConversionExit
to_octets_exit p elements words octets = conversion_leaves (to_octets_answer p elements words (length octets)) octets

unfoldable pub packed_from_exit : Parameters → ℕ → List ℕ → List ℕ → ConversionExit
packed_from_exit p elements octets words = conversion_leaves (packed_from_answer p elements octets (length words)) words

unfoldable pub packed_to_exit : Parameters → ℕ → List ℕ → List ℕ → ConversionExit
packed_to_exit p elements words octets = conversion_leaves (packed_to_answer p elements words (length octets)) octets

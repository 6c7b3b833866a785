-- 02, Q-8, with 01's "Refusal table": a × b + c as a call, over the n coefficient words of each, with c and the result in the same words.
--
--   multiply_add_exact whether a, b and c have n words each
--   words_fit         whether each word of the three is below q
--   multiply_add_tests the test after the length test
--   multiply_add_words the coefficients of a × b + c in R_q, from those of the three
--   multiply_add_answer the answer, from the words given
--   multiply_add_leaves what the caller has at exit, from an answer: the number, a and b as they were, and c: the result, or as it was
--   multiply_add_exit  the same from what the call was lent: what contracts equate
-- Assumes nothing.
use Rattle.std.specs.Prelude.{ℕ, Bool, ◌&&◌, not, List, [], ◌∷◌, eqb, length}
use Rattle.definitions.specs.Sequences.{tabulate}
use Rattle.definitions.specs.Refusals.{Test, refuse, Answer, answer, number, output}
use Rattle.definitions.specs.Parameters.{Parameters}
use Rattle.definitions.specs.Ring.{element_of, multiply_add}
use Rattle.definitions.specs.Octets.{coefficients_fit}
use Rattle.definitions.specs.Calls.{length_tests}

unfoldable pub multiply_add_exact : Parameters → ℕ → ℕ → ℕ → Bool
multiply_add_exact p a_len b_len c_len = eqb a_len p.n && (eqb b_len p.n && eqb c_len p.n)

unfoldable pub words_fit : ℕ → List ℕ → List ℕ → List ℕ → Bool
words_fit q a b c = coefficients_fit q a && (coefficients_fit q b && coefficients_fit q c)

abbrev pub multiply_add_tests : Parameters → List ℕ → List ℕ → List ℕ → List Test
multiply_add_tests p a b c = refuse 8 (not (words_fit p.q a b c)) ∷ []

abbrev pub multiply_add_words : Parameters → List ℕ → List ℕ → List ℕ → List ℕ
multiply_add_words p a b c = tabulate p.n (multiply_add p.q p.n (element_of a) (element_of b) (element_of c))

unfoldable pub multiply_add_answer : Parameters → List ℕ → List ℕ → List ℕ → Answer (List ℕ)
multiply_add_answer p a b c =
    answer
    (length_tests p (multiply_add_exact p (length a) (length b) (length c)))
    (multiply_add_tests p a b c)
    (multiply_add_words p a b c)

pub record MultiplyAddExit : Type 0 where
  pub refusal : ℕ
  pub a : List ℕ
  pub b : List ℕ
  pub c : List ℕ

abbrev pub multiply_add_leaves : Answer (List ℕ) → List ℕ → List ℕ → List ℕ → MultiplyAddExit
multiply_add_leaves r a b c = record { refusal = number r; a = a; b = b; c = output (λ d. d) r c }

unfoldable pub multiply_add_exit : Parameters → List ℕ → List ℕ → List ℕ → MultiplyAddExit
multiply_add_exit p a b c = multiply_add_leaves (multiply_add_answer p a b c) a b c

-- 01, "Draws from lent random octets" (key making), with 02, Q-1, Q-3 and Q-7: what stands in the work words while keys are made.
--
--   Follows          a list stands from a place up to another, behind what stood before it
--   terms_end         where the words of the terms end: every term but the constant, behind the first two parts
--   drawn_end         where the words of all that is drawn end: in edition 2 the constant's, which are thrown away, stand behind the terms
--   words_x, words_y   the words of u_x and of u_y: the first two parts;  words_halves: both;  words_terms: those of the terms;  words_drawn: those of all
--                    that is drawn for the key
--   KeyWords         work words of the exact length with small elements in the first two parts and elements of R_q behind them
--   public_in         the public key's octets, of the terms and the secret in the work words
--   keys_said         what each answer of the draws says, with the work words beside it: the keys that they make and the three numbers, or the
--                    refusal's number
--   keys_drawn        what is to be said: key generation's answer after the length test
-- Assumes nothing.
use Rattle.std.specs.Prelude.{ℕ, ◌+◌, ◌-◌, ◌*◌, ◌≡◌, true, List, [], ◌∷◌, ◌++◌, length, take, Result, Ok, Err}
use Rattle.std.proofs.Math.Seq.{slice}
use Rattle.definitions.specs.Sequences.{tabulate}
use Rattle.definitions.specs.Refusals.{Answer, refused, accepted, answer}
use Rattle.definitions.specs.Parameters.{Parameters, qlen, monomial_count}
use Rattle.definitions.specs.Ring.{element_of}
use Rattle.definitions.specs.Octets.{encoded, coefficients_fit}
use Rattle.definitions.specs.Calls.{KeyPair, half_draws, key_elements, key_draws, key_constant, key_pair_of, keygen_tests}
use Rattle.definitions.specs.Demand3.{InSmallRing, secret_of}
use Rattle.parameters.specs.declared.refusals.Refusal.{Refusal}
use Rattle.parameters.specs.Refusals.{refusal_number}
use Rattle.key_draws.specs.declared.KeyRun.{KeyRun}

abbrev pub Follows : ℕ → ℕ → List ℕ → List ℕ → List ℕ → Type 0
Follows at stop new old given = take stop given ≡ take at old ++ new

abbrev pub terms_end : Parameters → ℕ
terms_end p = p.n + p.n + (monomial_count p.dx - 1) * p.n

abbrev pub drawn_end : Parameters → ℕ
drawn_end p = p.n + p.n + key_elements p * p.n

abbrev pub words_x : Parameters → List ℕ → List ℕ
words_x p = slice 0 p.n

abbrev pub words_y : Parameters → List ℕ → List ℕ
words_y p = slice p.n (p.n + p.n)

abbrev pub words_halves : Parameters → List ℕ → List (List ℕ)
words_halves p work = words_x p work ∷ words_y p work ∷ []

abbrev pub words_terms : Parameters → List ℕ → List ℕ
words_terms p = slice (p.n + p.n) (terms_end p)

abbrev pub words_drawn : Parameters → List ℕ → List ℕ
words_drawn p = slice (p.n + p.n) (drawn_end p)

pub record KeyWords (p : Parameters) (work : List ℕ) : Type 0 where
  pub sized : length work ≡ 8 * p.n
  pub x : InSmallRing p (words_x p work)
  pub y : InSmallRing p (words_y p work)
  pub terms : coefficients_fit p.q (words_terms p work) ≡ true

abbrev pub public_in : Parameters → List ℕ → List ℕ
public_in p work =
    encoded (qlen p.q)
    (words_terms p work
    ++ tabulate p.n (key_constant p (words_terms p work) (element_of (words_x p work)) (element_of (words_y p work))))

abbrev pub keys_said : Parameters → Result KeyRun Refusal → List ℕ → Answer KeyPair
keys_said p (Ok run) work =
    accepted
    (record {
      secret = secret_of p (words_x p work) (words_y p work);
      public = public_in p work;
      used = run.octets;
      dropped_groups = run.groups;
      dropped_elements = run.elements;
    })
keys_said p (Err refusal) work = refused (refusal_number refusal)

unfoldable pub keys_drawn : Parameters → List ℕ → Answer KeyPair
keys_drawn p random = answer [] (keygen_tests p random) (key_pair_of p (half_draws p random) (key_draws p random))

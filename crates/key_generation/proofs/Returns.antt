-- What key generation leaves at each of its returns: with every length exact the draws alone decide the answer.
--
--   keygen-length       6: nothing is touched
--   keygen-refused      what the draws refused: the work words are cleared, and nothing else is touched
--   keygen-written      both keys, and the three numbers
-- Assumes nothing.
use Prim.Native.Nat.{ℕ}
use mathlib.Core.Path.{◌≡◌, ap, ◌∙◌}
use mathlib.Core.Bool.{true, false}
use mathlib.Core.List.{List}
use lib.ListN.{length, replicate}
use Rattle.definitions.specs.Refusals.{Answer, untouched, refused, first_refusal, answer}
use Rattle.definitions.specs.Parameters.{Parameters}
use Rattle.definitions.specs.Calls.{KeyPair, keys_exact, KeygenExit, keygen_answer, keygen_leaves, keygen_exit}
use Rattle.definitions.specs.Demand3.{AcceptedSet, secret_of}
use Rattle.definitions.proofs.Calls.{length_tests_decide}
use Rattle.definitions.proofs.Exits.{exit_length}
use Rattle.key_draws.specs.declared.KeyRun.{KeyRun}
use Rattle.std.specs.Prelude.{Ok}
use Rattle.key_draws.specs.Keys.{words_x, words_y, public_in, keys_said, keys_drawn}

module _ (p : Parameters) (random secret public : List ℕ) (used dropped_groups dropped_elements : ℕ) (work : List ℕ) (set : AcceptedSet p) where
  abbrev leaves : Answer KeyPair → KeygenExit
  leaves a = keygen_leaves a secret public used dropped_groups dropped_elements work

  abbrev exit : KeygenExit
  exit = keygen_exit p random secret public used dropped_groups dropped_elements work

  pub keygen-length : keys_exact p (length secret) (length public) (length work) ≡ false → leaves (untouched 6) ≡ exit
  unfolding keygen_exit keygen_answer
  keygen-length e = exit_length leaves p _ _ _ set e

  module _ (exact : keys_exact p (length secret) (length public) (length work) ≡ true) where
    drawn_exit : leaves (keys_drawn p random) ≡ exit
    unfolding keygen_exit keygen_answer keys_drawn answer first_refusal
    drawn_exit = rw (exact, length_tests_decide p set true)

    pub keygen-refused : {k : ℕ} {zeros : List ℕ} → refused k ≡ keys_drawn p random → zeros ≡ replicate (length work) 0
        → ◌≡◌ {A = KeygenExit}
        (record {
          refusal = k;
          secret = secret;
          public = public;
          used = used;
          dropped_groups = dropped_groups;
          dropped_elements = dropped_elements;
          work = zeros;
        })
        exit
    keygen-refused told z = rw z (ap leaves told ∙ drawn_exit)

    -- with the words that the keys were drawn into
    pub keygen-written : (words : List ℕ) {run : KeyRun} {s o zeros : List ℕ} → keys_said p (Ok run) words ≡ keys_drawn p random
        → s ≡ secret_of p (words_x p words) (words_y p words) → o ≡ public_in p words → zeros ≡ replicate (length work) 0
        → ◌≡◌ {A = KeygenExit}
        (record {
          refusal = 0;
          secret = s;
          public = o;
          used = run.octets;
          dropped_groups = run.groups;
          dropped_elements = run.elements;
          work = zeros;
        })
        exit
    keygen-written words told es eo z = rw (z, es, eo) (ap leaves told ∙ drawn_exit)

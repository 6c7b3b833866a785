-- Why the octets that key generation uses tell the groups and the elements dropped (02, Q-3): every element taken is one that was kept or one that was
-- dropped, and the draws below q begin where those of u_y ended.
--
--   keygen_reports    the octets used are the fixed part plus qlen for each group and ⌈n × b / 8⌉ for each element dropped
--   no_keys           octets whose elements all have a zero top give 9
--   full_secrets      only secrets whose elements have degree n - 1 pass the tests
-- Assumes nothing.
use Prim.Native.Nat.{ℕ, suc, ◌/◌, ◌<◌}
use mathlib.Core.Path.{◌≡◌, refl, ap, ap₂, ◌∙◌}
use mathlib.Core.Bool.{Bool, true, false, not}
use mathlib.Core.List.{List, []}
use native.Mathlib.Nat.{le-div_iff_mul-le, mul_comm}
use native.Mathlib.Omega.{arith}
use borrow.Author.Tests.{not-false}
use lib.Dec.{lit<}
use lib.ListN.{length, drop}
use Rattle.definitions.specs.Sequences.{sum}
use Rattle.definitions.specs.Parameters.{Parameters, degree, small_length}
use Rattle.definitions.specs.Calls.{secret_full, secret_tests, half_draws, halves_used, key_coefficients, key_draws, key_pair_of, keygen_answer, keygen_leaves, keygen_exit, is_zero_answer, decrypt_answer}
use Rattle.definitions.specs.Refusals.{accepted, number, first_refusal}
use Rattle.definitions.specs.Demand3.{secret_of}
use Rattle.definitions.specs.DroppedGroups.{keygen_fixed, draw_at}
use Rattle.definitions.specs.DroppedElements.{top_at, KeysReported, KeygenReports, NoKeys, FullSecrets}
use Rattle.definitions.proofs.Tests.{either_first}
use Rattle.definitions.proofs.Refusals.{first_refusal_applies, first_refusal_passed, first_refusal-append_passed, answer-refused, answer_success, answer-accepted_only}
use Rattle.definitions.proofs.Parameters.{accepted-set, small_length-least, secret_length_halves}
use Rattle.definitions.proofs.Calls.{length_tests_decide, keygen-told}
use Rattle.definitions.proofs.DroppedGroups.{draws_complete, dropped_summed}
use Rattle.definitions.proofs.SecretDraws.{HalvesTold, halves_told, halves_used-dropped}

module _ (p : Parameters) (random : List ℕ) (settled : (half_draws p random).enough ≡ true) (enough : (key_draws p random).enough ≡ true)
    (secret public : List ℕ) (used dropped_groups dropped_elements : ℕ) (work : List ℕ) where
  keys_reported : KeysReported p random
      (keygen_leaves (accepted (key_pair_of p (half_draws p random) (key_draws p random))) secret public used dropped_groups dropped_elements work)
  unfolding keygen_fixed key_pair_of key_draws halves_used
  keys_reported =
      let halves : HalvesTold p random = halves_told p random settled in
      let left : List ℕ = drop (halves_used p random) random in
      let taken = halves_used-dropped p random settled in
      record {
        settled =
            record {
              before_x = halves.before_x;
              before_y = halves.before_y;
              x = halves.x;
              y = halves.y;
              octets = ap₂ (secret_of p) halves.x_drawn halves.y_drawn;
              elements = halves.dropped;
            };
        reported =
            record {
              octets = omega (arith, taken, secret_length_halves p, (draws_complete p.q (key_coefficients p) left enough).octets);
              added_up = dropped_summed p.q left (key_coefficients p)
                  ∙ ap (λ (start : ℕ). sum (key_coefficients p) (λ i. (draw_at p.q (drop start random) i).dropped)) taken;
            };
      }

pub keygen_reports : KeygenReports
unfolding keygen_exit keygen_answer
keygen_reports p random secret public used dropped_groups dropped_elements work success =
    let made = answer_success _ _ _ success in
    let told = keygen-told p random (length secret) (length public) (length work) _ made in
    rw made (keys_reported p random told.settled told.enough secret public used dropped_groups dropped_elements work)

module _ (p : Parameters) (random : List ℕ) (least : 0 < small_length p)
    (zeros : (i : ℕ) → i < length random / small_length p → top_at p random i ≡ 0) where
  none_settled : (half_draws p random).enough ≡ false
  none_settled = go (half_draws p random).enough refl
    where
      go : (t : Bool) → (half_draws p random).enough ≡ t → t ≡ false
      go false e = refl
      go true e =
          let x = (halves_told p random e).x in
          let before : ℕ = (halves_told p random e).before_x in
          let inside : before < length random / small_length p
          = (le-div_iff_mul-le least).1 (rw (mul_comm (small_length p) (suc before)) at x.there) in
          let z : ⊥ = omega (arith, x.full, zeros before inside) in
          absurd z

pub no_keys : NoKeys
unfolding keygen_exit keygen_answer
no_keys p set random secret public used dropped_groups dropped_elements work exact zeros =
    ap number (answer-refused _ _ _ 8 (rw exact (length_tests_decide p set true))
    (first_refusal_applies 9 _ [] (either_first _ _ (ap not (none_settled p random (small_length-least p (accepted-set p set)) zeros)))))

-- a list of tests that gives 0 has passed 14
secret_tests-full : (p : Parameters) (d : ℕ) (secret octets : List ℕ) → first_refusal (secret_tests p d secret octets) ≡ 0 → secret_full p secret ≡ true
secret_tests-full p d secret octets e =
    let padding = first_refusal_passed 7 _ _ (lit< tt) e in
    let inside = first_refusal_passed 8 _ _ (lit< tt) padding.1 in
    not-false _ (first_refusal_passed 14 _ _ (lit< tt) inside.1).0

pub full_secrets : FullSecrets
unfolding decrypt_answer is_zero_answer
full_secrets p secret = (
  λ ciphertext message_len work_len message e.
      secret_tests-full p (degree p) secret ciphertext
      (first_refusal-append_passed (secret_tests p (degree p) secret ciphertext) _ (lit< tt, (lit< tt, (lit< tt, tt))) (answer-accepted_only _ _ _ message e).1).0,
  λ public work_len zero e. secret_tests-full p p.dx secret public (answer-accepted_only _ _ _ zero e).1,
)

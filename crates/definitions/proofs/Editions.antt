-- Why both editions make the same keys from the same octets (02, Q-7): edition 2's draws for the key are edition 1's, then n more, and the key's
-- terms are the first of them.
--
--   edition-judged    the edition is the last that is judged of a set;  set-judged: every call judges the set first
--   second-edition    edition 2's answer is edition 1's, with the draws for the constant added
--   same_keys         so keys and refusals agree;  fixed_parts: and the fixed parts differ by these draws
--   same_answers      no other call looks at the edition
--   numbers_named, lines_read   how many numbers a line has tells its edition;  same_lines: which does not change its answer
-- Assumes nothing.
use Prim.Native.Nat.{ℕ, zero, suc, ◌+◌, ◌*◌, ◌≤◌, ◌<◌}
use mathlib.Core.Path.{◌≡◌, refl, sym, ap, ap₂, ◌∙◌}
use mathlib.Core.Logic.{◌↔◌, ⊎_elim}
use mathlib.Core.Bool.{Bool, true, false, cond, ◌&&◌, ◌||◌, not}
use mathlib.Core.List.{List, [], ◌∷◌, ◌++◌}
use native.Mathlib.Nat.{mul-add, add_assoc}
use native.Mathlib.Omega.{arith}
use borrow.Author.Tests.{eqb-true}
use lib.Dec.{eqb, leb}
use lib.ListN.{length, get_or, take, drop, length-map, get_or-append, get_or-eq_default}
use lib.Seq.{get_or-append_seam, length-take-le, take-append-le, drop_at, drop-drop}
use Rattle.definitions.specs.Sequences.{every}
use Rattle.definitions.specs.Refusals.{Test, refuse, first_refusal, Answer, untouched, refused, accepted, answer_of, answer, number}
use Rattle.definitions.specs.Parameters.{Parameters, one_or_two, term_sum, bound, headroom, range_fits, ring_fits, degree_fits, modulus_fits, message_fits, edition_fits, set_tests, qlen, monomial_count, small_length, secret_length, elements_length, public_length, ciphertext_length, message_length, work_length, limits_answer, lengths_answer}
use Rattle.definitions.specs.Draws.{Drawn, draws_below, octets_used, small_drawn, secret_draws, noise_drawn}
use Rattle.definitions.specs.Calls.{KeyPair, small_of, secret_x, secret_y, decoded_elements, octets_from, secret_bits_clear, elements_fit, secret_full, length_tests, keys_exact, encrypt_exact, add_exact, decrypt_exact, half_draws, halves_used, key_elements, key_coefficients, term_coefficients, key_terms, key_draws, key_constant, key_pair_of, keygen_answer, is_zero_at, is_zero_answer, mask_draws, noise_of, encrypted_with, mask_used, encrypt_used, encrypt_answer, sum_modulo, add_answer, decrypted_value, decrypted_element, tail_clear, message_of, decrypted_from, decrypt_answer}
use Rattle.definitions.specs.Conversions.{from_octets_answer, to_octets_answer, packed_from_answer, packed_to_answer}
use Rattle.definitions.specs.Roomsheet.{Text, split, is_number, decimal, well_formed, numbers_of, set_of, limits_text, line_answer}
use Rattle.definitions.specs.DroppedGroups.{keygen_fixed}
use Rattle.definitions.specs.MultiplyAdd.{multiply_add_exact, multiply_add_answer}
use Rattle.definitions.specs.Editions.{in_edition, EditionJudged, SetJudged, constant_draws, with_constant, second_of, SecondEdition, SamePair, SameKeys, FixedParts, SameAnswers, NumbersNamed, LinesRead, SameLines}
use Rattle.definitions.proofs.Tests.{both_true, either_first, either_second}
use Rattle.definitions.proofs.Refusals.{answer-untouched_at}
use Rattle.definitions.proofs.Parameters.{one_or_two-cases}
use Rattle.definitions.proofs.Exits.{exit_set}
use Rattle.definitions.proofs.Roomsheet.{line_limits-set}
use Rattle.definitions.proofs.Monomials.{count-suc}
use Rattle.definitions.proofs.Draws.{then_drawn, draws_below-split, draws_below-length, keygen_answer-append}
use Rattle.definitions.proofs.OctetsUsed.{used-there, keygen_answer_taken}

-- ---- 18

-- of five tests and the edition's, each as whether it passes
tests_judged : (a b c d e t : Bool)
    → (let found : Bool → ℕ = λ s. first_refusal (refuse 1 (not a) ∷ refuse 2 (not b) ∷ refuse 3 (not c) ∷ refuse 4 (not d) ∷ refuse 5 (not e) ∷ refuse 18 (not s) ∷ []) in
    found t ≡ cond (eqb (found true) 0) (cond t 0 18) (found true))
unfolding first_refusal
tests_judged false b c d e t = refl
tests_judged true false c d e t = refl
tests_judged true true false d e t = refl
tests_judged true true true false e t = refl
tests_judged true true true true false t = refl
tests_judged true true true true true true = refl
tests_judged true true true true true false = refl

pub edition-judged : EditionJudged
unfolding set_tests range_fits ring_fits degree_fits modulus_fits message_fits edition_fits bound term_sum
edition-judged p edition =
    tests_judged (range_fits p) (ring_fits p) (degree_fits p) (modulus_fits p) (message_fits p) (one_or_two edition)

pub set-judged : SetJudged
unfolding
    limits_answer lengths_answer keygen_answer is_zero_answer encrypt_answer add_answer decrypt_answer multiply_add_answer from_octets_answer to_octets_answer
    packed_from_answer packed_to_answer
set-judged p k pos e =
    record {
      limits = answer-untouched_at (set_tests p) [] _ k pos e;
      lengths = answer-untouched_at (set_tests p) [] _ k pos e;
      keygen = λ random secret_len public_len work_len. judged _ _ _;
      is_zero = λ secret public work_len. judged _ _ _;
      encrypt = λ public message random ciphertext_len work_len. judged _ _ _;
      add = λ a b sum_len. judged _ _ _;
      decrypt = λ secret ciphertext message_len work_len. judged _ _ _;
      multiply_add = λ a b c. judged _ _ _;
      from_octets = λ elements octets words_len. judged _ _ _;
      to_octets = λ elements words octets_len. judged _ _ _;
      packed_from = λ elements octets words_len. judged _ _ _;
      packed_to = λ elements words octets_len. judged _ _ _;
    }
  where
    judged : {A : Type 0} (exact : Bool) (later : List Test) (a : A) → answer (length_tests p exact) later a ≡ untouched k
    judged exact later a = sym (exit_set (λ x. x) p exact later a (sym e) pos)

-- ---- the draws

-- the key's coefficients are those of the terms, and n more
key_more : (p : Parameters) → monomial_count p.dx * p.n ≡ term_coefficients p + p.n
key_more p = omega (arith, ap (λ (x : ℕ). x * p.n) (count-suc p.dx))

module _ (p : Parameters) (random : List ℕ) where
  abbrev one : Parameters
  one = in_edition 1 p

  abbrev two : Parameters
  two = in_edition 2 p

  -- the octets of u_x, u_y and the terms, by which edition 1 ends
  abbrev first_used : ℕ
  first_used = halves_used one random + octets_used p.q (key_draws one random)

  -- n draws more, from the octets after those
  key_draws-second : key_draws two random ≡ then_drawn (key_draws one random) (constant_draws p (drop first_used random))
  unfolding key_draws key_elements halves_used secret_draws small_drawn small_length
  key_draws-second =
      let left : List ℕ = drop (halves_used one random) random in
      ap (λ (count : ℕ). draws_below p.q count left) (key_more p)
      ∙ draws_below-split p.q (term_coefficients p) left p.n
      ∙ ap (λ (rest : List ℕ). then_drawn (key_draws one random) (constant_draws p rest)) (drop-drop (octets_used p.q (key_draws one random)) (halves_used one random) random)

  -- the terms are edition 1's, and the numbers add up
  pair_second : (key_draws one random).enough ≡ true → (constant : Drawn ℕ)
      → key_pair_of two (half_draws two random) (then_drawn (key_draws one random) constant)
      ≡ with_constant p (key_pair_of one (half_draws one random) (key_draws one random)) constant
  unfolding key_pair_of key_draws key_elements key_constant secret_draws small_drawn small_length
  pair_second enough constant =
      let drawn : Drawn ℕ = key_draws one random in
      let sized : term_coefficients p ≤ length drawn.values = omega (arith, draws_below-length p.q (term_coefficients p) _ enough) in
      let terms : key_terms two (then_drawn drawn constant) ≡ key_terms one drawn = take-append-le (term_coefficients p) drawn.values constant.values sized in
      rw (terms, mul-add (qlen p.q) drawn.groups constant.groups, ← add_assoc)

  -- edition 2's answer from edition 1's, by what led to both: the length test and those before it, the halves, edition 1's draws
  answers_second : (m : ℕ) (unsettled enough : Bool) (first second : KeyPair) (constant : Drawn ℕ)
      → constant ≡ constant_draws p (drop first.used random) → (enough ≡ true → second ≡ with_constant p first constant)
      → answer_of m (first_refusal (refuse 9 (unsettled || not (enough && constant.enough)) ∷ [])) second
      ≡ second_of p random (answer_of m (first_refusal (refuse 9 (unsettled || not enough) ∷ [])) first)
  unfolding first_refusal
  answers_second (suc m) unsettled enough first second constant is made = refl
  answers_second zero true enough first second constant is made = refl
  answers_second zero false false first second constant is made = refl
  answers_second zero false true first second constant is made = rw (← is, made refl) (go constant.enough)
    where
      go : (t : Bool) → answer_of 0 (first_refusal (refuse 9 (not t) ∷ [])) (with_constant p first constant)
          ≡ cond t (accepted (with_constant p first constant)) (refused 9)
      go true = refl
      go false = refl

pub second-edition : SecondEdition
unfolding
    keygen_answer answer length_tests set_tests range_fits ring_fits degree_fits modulus_fits message_fits edition_fits bound term_sum keys_exact secret_length public_length
    elements_length work_length small_length secret_draws small_drawn halves_used key_pair_of
second-edition p random secret_len public_len work_len =
    let first : Drawn ℕ = key_draws (in_edition 1 p) random in
    let halves : Drawn (List ℕ) = half_draws (in_edition 1 p) random in
    let constant : Drawn ℕ = constant_draws p (drop (first_used p random) random) in
    rw (key_draws-second p random)
    (answers_second p random (first_refusal (length_tests (in_edition 1 p) (keys_exact (in_edition 1 p) secret_len public_len work_len))) (not halves.enough)
    first.enough (key_pair_of (in_edition 1 p) halves first) (key_pair_of (in_edition 2 p) halves (then_drawn first constant)) constant refl
    (λ enough. pair_second p random enough constant))

-- ---- what follows for keys and refusals

module _ (p : Parameters) (random : List ℕ) where
  second_of-accepted : (a : Answer KeyPair) (keys : KeyPair) → second_of p random a ≡ accepted keys
      → (others : KeyPair) × (a ≡ accepted others) × SamePair others keys
  second_of-accepted (untouched k) keys e = let z : ◌≡◌ {A = ℕ} 0 1 = cc in let w : ⊥ = omega arith in absurd w
  second_of-accepted (refused k) keys e = let z : ◌≡◌ {A = ℕ} 0 1 = cc in let w : ⊥ = omega arith in absurd w
  second_of-accepted (accepted first) keys e = (first, refl, go (constant_draws p (drop first.used random)).enough e)
    where
      constant : Drawn ℕ
      constant = constant_draws p (drop first.used random)

      go : (t : Bool) → cond t (accepted (with_constant p first constant)) (refused 9) ≡ accepted keys → SamePair first keys
      go true f =
          let same : with_constant p first constant ≡ keys = cc in
          rw (← same) (record { secret = refl; public = refl; elements = refl })
      go false f = let z : ◌≡◌ {A = ℕ} 0 1 = cc in let w : ⊥ = omega arith in absurd w

  second_of-number : (a : Answer KeyPair) (k : ℕ) → (k ≡ 0 → ⊥) → (k ≡ 9 → ⊥) → number a ≡ k ↔ number (second_of p random a) ≡ k
  second_of-number (untouched m) k not-0 not-9 = (λ e. e, λ e. e)
  second_of-number (refused m) k not-0 not-9 = (λ e. e, λ e. e)
  second_of-number (accepted first) k not-0 not-9 = (λ e. absurd (not-0 (sym e)), go _ (constant_draws p (drop first.used random)).enough)
    where
      go : (keys : KeyPair) (t : Bool) → number (cond t (accepted keys) (refused 9)) ≡ k → 0 ≡ k
      go keys true e = absurd (not-0 (sym e))
      go keys false e = absurd (not-9 (sym e))

  second_of-exhausted : (a : Answer KeyPair) → number a ≡ 9 → number (second_of p random a) ≡ 9
  second_of-exhausted (untouched m) e = e
  second_of-exhausted (refused m) e = e
  second_of-exhausted (accepted first) e = let z : ⊥ = omega arith in absurd z

  -- behind the octets that edition 1 used stand those for the constant
  second_of-onward : (keys : KeyPair) (later : List ℕ) → keys.used ≤ length random → (constant_draws p later).enough ≡ true
      → second_of p (take keys.used random ++ later) (accepted keys) ≡ accepted (with_constant p keys (constant_draws p later))
  second_of-onward keys later there enough =
      rw (drop_at (take keys.used random) later keys.used (length-take-le keys.used random there), enough)

pub same_keys : SameKeys
same_keys p secret_len public_len work_len =
    record {
      onward = λ random later keys e enough. (
        second-edition p _ secret_len public_len work_len ∙ ap (second_of p _) (behind random later keys e)
            ∙ second_of-onward p random keys later (used-there (in_edition 1 p) random secret_len public_len work_len keys e) enough,
        record { secret = refl; public = refl; elements = refl },
      );
      back = λ random keys e.
          let first = second_of-accepted p random (made random) keys (sym (second-edition p random secret_len public_len work_len) ∙ e) in
          (first.0, first.1, first.2, λ later. behind random later first.0 first.1);
      refusals = λ random k not-0 not-9. rw (second-edition p random secret_len public_len work_len) (second_of-number p random (made random) k not-0 not-9);
      exhausted = λ random e. rw (second-edition p random secret_len public_len work_len) (second_of-exhausted p random (made random) e);
    }
  where
    made : List ℕ → Answer KeyPair
    made random = keygen_answer (in_edition 1 p) random secret_len public_len work_len

    -- edition 1 needs no more than the octets that it used
    behind : (random later : List ℕ) (keys : KeyPair) → made random ≡ accepted keys → made (take keys.used random ++ later) ≡ accepted keys
    behind random later keys e =
        keygen_answer-append (in_edition 1 p) (take keys.used random) later secret_len public_len work_len keys
        (keygen_answer_taken (in_edition 1 p) random secret_len public_len work_len keys e)

pub fixed_parts : FixedParts
unfolding keygen_fixed key_elements small_length
fixed_parts p = rw (key_more p, mul-add (qlen p.q) (term_coefficients p) p.n, ← add_assoc)

-- ---- all other calls

pub same_answers : SameAnswers
unfolding
    answer first_refusal length_tests set_tests range_fits ring_fits degree_fits modulus_fits message_fits edition_fits headroom bound term_sum limits_answer lengths_answer
    keys_exact encrypt_exact add_exact decrypt_exact multiply_add_exact secret_length public_length ciphertext_length message_length elements_length work_length
    small_length small_of secret_x secret_y decoded_elements octets_from secret_bits_clear elements_fit secret_full is_zero_at is_zero_answer mask_draws noise_of noise_drawn
    small_drawn encrypted_with mask_used encrypt_used encrypt_answer sum_modulo add_answer decrypted_value decrypted_element tail_clear message_of decrypted_from
    decrypt_answer multiply_add_answer from_octets_answer to_octets_answer packed_from_answer packed_to_answer
same_answers p =
    record {
      check = refl;
      limits = refl;
      lengths = refl;
      is_zero = λ secret public work_len. refl;
      encrypt = λ public message random ciphertext_len work_len. refl;
      add = λ x y sum_len. refl;
      decrypt = λ secret ciphertext message_len work_len. refl;
      multiply_add = λ x y z. refl;
      from_octets = λ elements octets words_len. refl;
      to_octets = λ elements words octets_len. refl;
      packed_from = λ elements octets words_len. refl;
      packed_to = λ elements words octets_len. refl;
    }

-- ---- roomsheet

pub numbers_named : NumbersNamed
unfolding set_of
numbers_named = record { six = λ p. refl; seven = λ p. refl }

-- six numbers name a set; a seventh behind them is its edition
module _ (numbers : List ℕ) (six : length numbers ≡ 6) where
  set_of-six : set_of numbers ≡ in_edition 1 (set_of numbers)
  unfolding set_of
  set_of-six = rw (get_or-eq_default numbers 1 {n = 6} (omega arith))

  set_of_seventh : (edition : ℕ) → set_of (numbers ++ (edition ∷ [])) ≡ in_edition edition (set_of numbers)
  unfolding set_of
  set_of_seventh edition =
      let last : get_or (numbers ++ (edition ∷ [])) 6 1 ≡ edition = rw six at (get_or-append_seam numbers edition [] 1) in
      rw (at 0 (omega arith), at 1 (omega arith), at 2 (omega arith), at 3 (omega arith), at 4 (omega arith), at 5 (omega arith), last)
    where
      at : (i : ℕ) → i < 6 → get_or (numbers ++ (edition ∷ [])) i 0 ≡ get_or numbers i 0
      at i l = get_or-append numbers (edition ∷ []) 0 i (omega arith)

-- a well-formed line has as many numbers as were asked for
numbers_of-length : (count : ℕ) (line : Text) → well_formed count line ≡ true → length (numbers_of line) ≡ count
unfolding well_formed numbers_of
numbers_of-length count line e =
    let fields = split 32 line in
    let short = both_true (leb (length line) 80) (eqb (length fields) count && every count (λ i. is_number (get_or fields i []))) e in
    length-map fields decimal ∙ eqb-true _ _ (both_true (eqb (length fields) count) _ short.1).0

pub lines_read : LinesRead
lines_read =
    record {
      six = λ line e.
          line_limits-set line (either_first (well_formed 6 line) (well_formed 7 line) e)
          ∙ ap limits_answer (set_of-six (numbers_of line) (numbers_of-length 6 line e));
      seven = λ line e. line_limits-set line (either_second (well_formed 6 line) (well_formed 7 line) e);
    }

-- the bound and the headroom do not go by the edition
limits_alike : (p : Parameters) (edition : ℕ) → one_or_two edition ≡ true → limits_answer (in_edition edition p) ≡ limits_answer (in_edition 1 p)
limits_alike p edition e = ⊎_elim (λ one. rw one) (λ two. rw two (sym (same_answers p).limits)) (one_or_two-cases edition e)

pub same_lines : SameLines
unfolding line_answer
same_lines line longer edition six seven numbers fits =
    ap limits_text (lines_read.seven longer seven
    ∙ ap limits_answer (ap set_of numbers ∙ set_of_seventh (numbers_of line) (numbers_of-length 6 line six) edition)
    ∙ limits_alike (set_of (numbers_of line)) edition fits ∙ sym (lines_read.six line six))

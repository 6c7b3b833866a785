-- Why the octets used are those that a call needs: the groups that a run took give the same alone, and were fewer enough, the run would have
-- ended there.
--
--   draws_below-fewer   with fewer octets than a run used there is not enough
--   answers_alike      a call that its front octets already satisfy leaves the same whatever follows them
--   keygen_needs, encrypt_needs   the octets used suffice, and fewer are 9
-- Assumes nothing.
use Prim.Native.Nat.{ℕ, ◌+◌, ◌-◌, ◌*◌, ◌≤◌, ◌<◌}
use native.Mathlib.Nat.{le_trans, min-le_left}
use native.Mathlib.Omega.{arith}
use mathlib.Core.Path.{◌≡◌, refl, sym, ap, ◌∙◌}
use mathlib.Core.Bool.{Bool, true, false, ◌||◌, not}
use mathlib.Core.List.{List, [], ◌∷◌, ◌++◌}
use borrow.Author.Tests.{lt-ltb, le-ltb}
use lib.Dec.{ltb}
use lib.ListN.{length, take, drop, length-take, length-drop, take-append-drop}
use lib.Seq.{length-take-le, take-add, drop_at}
use Rattle.definitions.specs.Refusals.{first_refusal, Answer, accepted, number, refuse}
use Rattle.definitions.specs.Parameters.{Parameters, small_length}
use Rattle.definitions.specs.Draws.{Drawn, draws_below, octets_used}
use Rattle.definitions.specs.Calls.{KeyPair, Encrypted, key_coefficients, half_draws, halves_used, key_draws, key_pair_of, keygen_tests, keygen_answer, KeygenExit, keygen_leaves, keygen_exit, mask_coefficients, mask_draws, mask_used, encrypt_used, encrypt_tests, encrypt_answer, EncryptExit, encrypt_leaves, encrypt_exit}
use Rattle.definitions.specs.Demand3.{AcceptedSet}
use Rattle.definitions.specs.OctetsUsed.{KeygenNeeds, EncryptNeeds}
use Rattle.definitions.proofs.Tests.{either_first, either_second}
use Rattle.definitions.proofs.Refusals.{first_refusal_applies, first_refusal_last, first_refusal_passes, answer-accepted, answer-refused, answer-accepted_only, answer_success}
use Rattle.definitions.proofs.Parameters.{accepted-set, modulus_positive, modulus_word, qlen-least, small_length-least}
use Rattle.definitions.proofs.Draws.{draws_below-append, draws_below-within, draws_below_taken, secret_draws-append, secret_draws_taken, halves_used-there, halves_used-append, keygen_answer-append, mask_draws-append, encrypt_used-append, encrypt_answer-append}
use Rattle.definitions.proofs.Calls.{keygen-told, EncryptTold, encrypt-told}

length_front : (m : ℕ) (random : List ℕ) → length (take m random) ≤ m
length_front m random = rw (length-take m random) (min-le_left m (length random))

-- more octets than a run needed change nothing, so a run that has enough with fewer used fewer
draws_below-fewer : (q count : ℕ) (random : List ℕ) (m : ℕ) → m < octets_used q (draws_below q count random) → (draws_below q count (take m random)).enough ≡ false
draws_below-fewer q count random m l = go (draws_below q count (take m random)).enough refl
  where
    go : (t : Bool) → (draws_below q count (take m random)).enough ≡ t → t ≡ false
    go false e = refl
    go true e =
        let same : draws_below q count random ≡ draws_below q count (take m random)
        = ap (draws_below q count) (sym (take-append-drop m random)) ∙ draws_below-append q count (take m random) (drop m random) e in
        let used : octets_used q (draws_below q count random) ≤ m
        = le_trans (rw same (draws_below-within q count (take m random))) (length_front m random) in
        let z : ⊥ = omega (arith, used) in
        absurd z

-- a call that answers the same with more octets, and that the first octets satisfy: the others do not matter
module _ {A : Type 0} (respond : List ℕ → Answer A)
    (append : (octets more : List ℕ) (a : A) → respond octets ≡ accepted a → respond (octets ++ more) ≡ accepted a)
  where
    answers_alike : (m : ℕ) (random others : List ℕ) (a : A) → respond (take m random) ≡ accepted a → respond (take m random ++ others) ≡ respond random
    answers_alike m random others a e =
        append (take m random) others a e
        ∙ sym (ap respond (sym (take-append-drop m random)) ∙ append (take m random) (drop m random) a e)

-- ---- key generation

abbrev key_used : Parameters → List ℕ → ℕ
key_used p random = halves_used p random + octets_used p.q (key_draws p random)

-- the test of the random octets
abbrev keys_exhausted : Parameters → List ℕ → Bool
keys_exhausted p octets = not (half_draws p octets).enough || not (key_draws p octets).enough

pub key_used_there : (p : Parameters) (random : List ℕ) → key_used p random ≤ length random
unfolding key_draws
key_used_there p random =
    omega (arith, halves_used-there p random, length-drop (halves_used p random) random, draws_below-within p.q (key_coefficients p) (drop (halves_used p random) random))

module _ (p : Parameters) (random : List ℕ) where
  abbrev left : List ℕ
  left = drop (halves_used p random) random

  -- the octets after the secret's, where only so many of them are given
  left_taken : (more : ℕ) → drop (halves_used p random) (take (halves_used p random + more) random) ≡ take more left
  left_taken more =
      ap (drop (halves_used p random)) (take-add (halves_used p random) more random)
      ∙ drop_at (take (halves_used p random) random) _ (halves_used p random) (length-take-le (halves_used p random) random (halves_used-there p random))

  half_draws_taken : AcceptedSet p → (more : ℕ) → (half_draws p random).enough ≡ true → half_draws p (take (halves_used p random + more) random) ≡ half_draws p random
  unfolding halves_used
  half_draws_taken set more settled =
      let alone : half_draws p (take (halves_used p random) random) ≡ half_draws p random
      = secret_draws_taken p 2 random (small_length-least p (accepted-set p set)) in
      ap (half_draws p) (take-add (halves_used p random) more random)
      ∙ secret_draws-append p 2 (take (halves_used p random) random) _ (rw alone settled) ∙ alone

  key_draws_taken : AcceptedSet p → (half_draws p random).enough ≡ true → key_draws p (take (key_used p random) random) ≡ key_draws p random
  unfolding key_draws halves_used
  key_draws_taken set settled =
      let a = accepted-set p set in
      let more : ℕ = octets_used p.q (key_draws p random) in
      let used : halves_used p (take (halves_used p random + more) random) ≡ halves_used p random
      = ap (λ (d : Drawn (List ℕ)). small_length p * d.groups) (half_draws_taken set more settled) in
      ap (λ (start : ℕ). draws_below p.q (key_coefficients p) (drop start (take (halves_used p random + more) random))) used
      ∙ ap (draws_below p.q (key_coefficients p)) (left_taken more)
      ∙ draws_below_taken p.q (key_coefficients p) left (qlen-least p.q (modulus_positive p a) (modulus_word p a))

  key_draws-fewer : (m : ℕ) → m < key_used p random → keys_exhausted p (take m random) ≡ true
  unfolding key_draws
  key_draws-fewer m l = go (half_draws p (take m random)).enough refl
    where
      go : (t : Bool) → (half_draws p (take m random)).enough ≡ t → keys_exhausted p (take m random) ≡ true
      go false e = either_first _ _ (ap not e)
      go true e =
          let used : halves_used p random ≡ halves_used p (take m random)
          = ap (halves_used p) (sym (take-append-drop m random)) ∙ halves_used-append p (take m random) (drop m random) e in
          let more : ℕ = m - halves_used p random in
          let split : m ≡ halves_used p random + more = omega (arith, used, halves_used-there p (take m random), length_front m random) in
          let front : drop (halves_used p (take m random)) (take m random) ≡ take more left
          = rw (← used) (ap (λ (k : ℕ). drop (halves_used p random) (take k random)) split ∙ left_taken more) in
          let ended : (draws_below p.q (key_coefficients p) (drop (halves_used p (take m random)) (take m random))).enough ≡ false
          = rw front (draws_below-fewer p.q (key_coefficients p) left more (omega arith)) in
          either_second (not (half_draws p (take m random)).enough) _ (ap not ended)

-- the octets used make the same keys alone
module _ (p : Parameters) (random : List ℕ) (secret_len public_len work_len : ℕ) (keys : KeyPair)
    (made : keygen_answer p random secret_len public_len work_len ≡ accepted keys)
  where
    pub used-there : keys.used ≤ length random
    unfolding key_pair_of halves_used
    used-there = rw (← (keygen-told p random secret_len public_len work_len keys made).made) (key_used_there p random)

    pub keygen_answer_taken : keygen_answer p (take keys.used random) secret_len public_len work_len ≡ accepted keys
    unfolding keygen_answer key_pair_of halves_used
    keygen_answer_taken =
        let told = keygen-told p random secret_len public_len work_len keys made in
        let used : keys.used ≡ key_used p random = ap (λ (k : KeyPair). k.used) (sym told.made) in
        ap (λ (m : ℕ). keygen_answer p (take m random) secret_len public_len work_len) used
        ∙ rw (half_draws_taken p random told.set _ told.settled, key_draws_taken p random told.set told.settled) made

pub keygen_needs : KeygenNeeds
unfolding keygen_exit keygen_answer key_pair_of halves_used
keygen_needs p random secret public used dropped_groups dropped_elements work success =
    let made = answer_success _ _ _ success in
    let tests = answer-accepted_only _ _ _ _ made in
    let respond : List ℕ → Answer KeyPair = λ octets. keygen_answer p octets (length secret) (length public) (length work) in
    let leaves : Answer KeyPair → KeygenExit = λ a. keygen_leaves a secret public used dropped_groups dropped_elements work in
    rw made
    (record {
      there = used-there p random _ _ _ _ made;
      suffice = λ others. ap leaves (answers_alike respond (λ octets more. keygen_answer-append p octets more _ _ _) (key_used p random) random others _
          (keygen_answer_taken p random _ _ _ _ made));
      fewer = λ m l. ap number (answer-refused _ _ _ 8 tests.0 (first_refusal_applies 9 _ [] (key_draws-fewer p random m l)));
    })

-- ---- encryption

-- the test of the random octets
abbrev mask_exhausted : Parameters → List ℕ → Bool
mask_exhausted p octets = not (mask_draws p octets).enough || ltb (length octets) (encrypt_used p octets)

module _ (p : Parameters) (random : List ℕ) where
  mask_draws_taken : AcceptedSet p → (more : ℕ) → (mask_draws p random).enough ≡ true → mask_draws p (take (mask_used p random + more) random) ≡ mask_draws p random
  unfolding mask_draws mask_used
  mask_draws_taken set more enough =
      let a = accepted-set p set in
      let alone : mask_draws p (take (mask_used p random) random) ≡ mask_draws p random
      = draws_below_taken p.q (mask_coefficients p) random (qlen-least p.q (modulus_positive p a) (modulus_word p a)) in
      ap (mask_draws p) (take-add (mask_used p random) more random)
      ∙ mask_draws-append p (take (mask_used p random) random) _ (rw alone enough) ∙ alone

  mask-fewer : (m : ℕ) → m < encrypt_used p random → mask_exhausted p (take m random) ≡ true
  mask-fewer m l = go (mask_draws p (take m random)).enough refl
    where
      go : (t : Bool) → (mask_draws p (take m random)).enough ≡ t → mask_exhausted p (take m random) ≡ true
      go false e = either_first _ _ (ap not e)
      go true e =
          let same : encrypt_used p random ≡ encrypt_used p (take m random)
          = ap (encrypt_used p) (sym (take-append-drop m random)) ∙ encrypt_used-append p (take m random) (drop m random) e in
          let shorter : length (take m random) < encrypt_used p (take m random) = omega (arith, same, length_front m random) in
          either_second (not (mask_draws p (take m random)).enough) _ (lt-ltb _ _ shorter)

-- only the random octets are left to judge
module _ (p : Parameters) (public message random : List ℕ) {e : Encrypted} (told : EncryptTold p public message random e) where
  encrypt_tests-octets : (octets : List ℕ) → first_refusal (encrypt_tests p public message octets) ≡ first_refusal (refuse 9 (mask_exhausted p octets) ∷ [])
  encrypt_tests-octets octets = first_refusal_passes 7 _ _ (ap not told.padded) ∙ first_refusal_passes 8 _ _ (ap not told.fits)

  abbrev front : List ℕ
  front = take (encrypt_used p random) random

  mask_alike : mask_draws p front ≡ mask_draws p random
  unfolding encrypt_used
  mask_alike = mask_draws_taken p random told.set _ told.enough

  used_alike : encrypt_used p front ≡ encrypt_used p random
  unfolding encrypt_used mask_used
  used_alike = rw mask_alike

  mask_taken : mask_exhausted p front ≡ false
  mask_taken =
      let there : encrypt_used p front ≤ length front = omega (arith, used_alike, length-take-le (encrypt_used p random) random told.room) in
      rw (ap (λ (d : Drawn ℕ). d.enough) mask_alike ∙ told.enough, le-ltb (length front) (encrypt_used p front) there)

pub encrypt_needs : EncryptNeeds
unfolding encrypt_exit encrypt_answer
encrypt_needs p public message random ciphertext used dropped_groups work success =
    let made = answer_success _ _ _ success in
    let told = encrypt-told p public message random (length ciphertext) (length work) _ made in
    let tests = answer-accepted_only _ _ _ _ made in
    let respond : List ℕ → Answer Encrypted = λ octets. encrypt_answer p public message octets (length ciphertext) (length work) in
    let leaves : Answer Encrypted → EncryptExit = λ a. encrypt_leaves a ciphertext used dropped_groups work in
    rw made
    (record {
      there = told.room;
      suffice = λ others. ap leaves (answers_alike respond (λ octets more. encrypt_answer-append p octets more public message _ _) (encrypt_used p random) random others _
          (answer-accepted _ _ _ tests.0 (encrypt_tests-octets p public message random told _ ∙ first_refusal_last 9 _ (mask_taken p public message random told))));
      fewer = λ m l. ap number (answer-refused _ _ _ 8 tests.0 (encrypt_tests-octets p public message random told (take m random) ∙ first_refusal_applies 9 _ [] (mask-fewer p random m l)));
    })

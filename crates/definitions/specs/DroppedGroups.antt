-- 02, Q-1: the groups dropped, of a single draw below q and of a run, and the octets that follow from them. A run is so many draws, one after
-- the other.
--
--   group_number_at    the i-th group of some octets, as a number, i from 0
--   SingleDraw       a single draw gives the first group that is below q; those before it, each q or more, are the dropped ones; it used qlen octets
--                    for it and for each of them, and they are there
--   DrawsSingly      so is every single draw that has enough
--   UnfinishedDraw   a single draw gives nothing and dropped every complete group, each q or more
--   DrawsUnfinished  so is every single draw that has not enough
--   draw_start        where the i-th draw of a run begins, i from 0: after the octets that the draws before it used;  draw_at: that draw
--   RunTotals        a run is its single draws: its values are theirs, its octets and its dropped groups are the sums over them, and it has enough
--                    just where each has
--   DrawsAddUp       so is every run
--   CompleteRun      as many values as draws, each below q, and qlen octets for each of them and for each group dropped
--   DrawsComplete    so is every run that has enough, a single draw among them
--   keygen_fixed      the fixed part of the octets used: u_x and u_y, and n draws for each key element that the edition draws (02, Q-7)
--   encrypt_fixed     the same of encryption: n draws for each element of r, and the elements of e
--   Reported         the octets used are a fixed part plus qlen times the groups dropped; and the groups dropped are the sum over so many
--                    single draws
--   EncryptReports   so it is with what encryption reports, wherever it does not refuse;  key generation: DroppedElements.antt
--   DroppedGroupsWitnessed   what a caller has of keys and of a ciphertext with dropped groups, and of a refusal with 9; where the single draws for
--                    its r begin, where the last ends, and what each drops; that they have enough; single draws at 36, the least q of an
--                    accepted set, at a power of two and at 16 bits, and one without enough; a run without enough; and the fixed parts: no
--                    hypothesis is empty
-- Assumes nothing.
use Rattle.std.specs.Prelude.{ℕ, zero, suc, ◌+◌, ◌*◌, ◌/◌, ◌≤◌, ◌<◌, ◌≡◌, true, false, List, [], ◌∷◌, ◌++◌, length, get_or, drop, take, replicate}
use Rattle.definitions.specs.Sequences.{sum, every, tabulate, joined}
use Rattle.definitions.specs.Parameters.{Parameters, degree, qlen, monomial_count, small_length}
use Rattle.definitions.specs.Draws.{Drawn, group_number, draws_below, draw_below, octets_used}
use Rattle.definitions.specs.Calls.{key_coefficients, mask_coefficients, KeygenExit, keygen_exit, EncryptExit, encrypt_exit}
use Rattle.definitions.specs.WorkedCases.{set_a, key_random, secret_a, key_a, two_dropped, ciphertext_a}

abbrev pub group_number_at : ℕ → List ℕ → ℕ → ℕ
group_number_at q random i = group_number q (take (qlen q) (drop (i * qlen q) random))

pub record SingleDraw (q : ℕ) (random : List ℕ) (drawn : Drawn ℕ) : Type 0 where
  pub value : drawn.values ≡ group_number_at q random drawn.dropped ∷ []
  pub below : group_number_at q random drawn.dropped < q
  pub dropped-before : (i : ℕ) → i < drawn.dropped → q ≤ group_number_at q random i
  pub octets : octets_used q drawn ≡ qlen q + qlen q * drawn.dropped
  pub there : octets_used q drawn ≤ length random

abbrev pub DrawsSingly : Type 0
DrawsSingly = (q : ℕ) (random : List ℕ) → (draw_below q random).enough ≡ true → SingleDraw q random (draw_below q random)

pub record UnfinishedDraw (q : ℕ) (random : List ℕ) (drawn : Drawn ℕ) : Type 0 where
  pub nothing : drawn.values ≡ []
  pub all_dropped : drawn.dropped ≡ length random / qlen q
  pub none_below : (i : ℕ) → i < length random / qlen q → q ≤ group_number_at q random i

abbrev pub DrawsUnfinished : Type 0
DrawsUnfinished = (q : ℕ) (random : List ℕ) → (draw_below q random).enough ≡ false → UnfinishedDraw q random (draw_below q random)

unfoldable pub draw_start : ℕ → List ℕ → ℕ → ℕ
draw_start q random zero = 0
draw_start q random (suc i) = draw_start q random i + octets_used q (draw_below q (drop (draw_start q random i) random))

abbrev pub draw_at : ℕ → List ℕ → ℕ → Drawn ℕ
draw_at q random i = draw_below q (drop (draw_start q random i) random)

pub record RunTotals (q count : ℕ) (random : List ℕ) : Type 0 where
  pub values : (draws_below q count random).values ≡ joined (tabulate count (λ i. (draw_at q random i).values))
  pub octets : octets_used q (draws_below q count random) ≡ sum count (λ i. octets_used q (draw_at q random i))
  pub dropped : (draws_below q count random).dropped ≡ sum count (λ i. (draw_at q random i).dropped)
  pub enough : (draws_below q count random).enough ≡ every count (λ i. (draw_at q random i).enough)

abbrev pub DrawsAddUp : Type 0
DrawsAddUp = (q count : ℕ) (random : List ℕ) → RunTotals q count random

pub record CompleteRun (q count : ℕ) (random : List ℕ) : Type 0 where
  pub as_many : length (draws_below q count random).values ≡ count
  pub below : (i : ℕ) → i < count → get_or (draws_below q count random).values i 0 < q
  pub octets : octets_used q (draws_below q count random) ≡ qlen q * count + qlen q * (draws_below q count random).dropped

abbrev pub DrawsComplete : Type 0
DrawsComplete = (q count : ℕ) (random : List ℕ) → (draws_below q count random).enough ≡ true → CompleteRun q count random

unfoldable pub keygen_fixed : Parameters → ℕ
keygen_fixed p = 2 * small_length p + qlen p.q * key_coefficients p

unfoldable pub encrypt_fixed : Parameters → ℕ
encrypt_fixed p = qlen p.q * (monomial_count p.dr * p.n) + monomial_count (degree p) * small_length p

pub record Reported (q fixed used dropped_groups count : ℕ) (random : List ℕ) : Type 0 where
  pub octets : used ≡ fixed + qlen q * dropped_groups
  pub added_up : dropped_groups ≡ sum count (λ i. (draw_at q random i).dropped)

-- what the caller has at exit, where the number is 0
abbrev pub EncryptReports : Type 0
EncryptReports =
    (p : Parameters) (public message random ciphertext : List ℕ) (used dropped_groups : ℕ) (work : List ℕ) →
    (let exit = encrypt_exit p public message random ciphertext used dropped_groups work in
    exit.refusal ≡ 0 → Reported p.q (encrypt_fixed p) exit.used exit.dropped_groups (mask_coefficients p) random)

-- worked case 2 with 1459 after the secret's octets, and worked case 3 with it in front and before the third pair; unused top bits of u_x, u_y
-- and the last element of e are set, and ignored
abbrev pub keys_random : List ℕ
keys_random = 0xF9 ∷ 0x14 ∷ 0xB3 ∷ 0x05 ∷ drop 2 key_random

abbrev pub ciphertext_random : List ℕ
ciphertext_random = take 21 two_dropped ++ (0xF9 ∷ [])

-- what the caller's buffers and numbers held
abbrev pub keys_left_by : Parameters → List ℕ → KeygenExit
keys_left_by p random = keygen_exit p random (replicate 2 255) (replicate 12 255) 98 99 96 (replicate 16 97)

abbrev pub keys_left : List ℕ → KeygenExit
keys_left = keys_left_by set_a

abbrev pub ciphertext_left : List ℕ → EncryptExit
ciphertext_left random = encrypt_exit set_a key_a (0x0E ∷ []) random (replicate 24 255) 98 99 (replicate 16 97)

pub record DroppedGroupsWitnessed : Type 0 where
  pub made :
      keys_left keys_random
      ≡ record { refusal = 0; secret = secret_a; public = key_a; used = 12; dropped_groups = 1; dropped_elements = 0; work = replicate 16 0 }
  pub encrypted : ciphertext_left ciphertext_random ≡ record { refusal = 0; ciphertext = ciphertext_a; used = 22; dropped_groups = 2; work = replicate 16 0 }
  pub keygen-refused :
      keys_left (take 11 keys_random)
      ≡ record { refusal = 9; secret = replicate 2 255; public = replicate 12 255; used = 98; dropped_groups = 99; dropped_elements = 96; work = replicate 16 0 }
  pub encrypt-refused :
      ciphertext_left (take 21 ciphertext_random)
      ≡ record { refusal = 9; ciphertext = replicate 24 255; used = 98; dropped_groups = 99; work = replicate 16 0 }
  pub starts : tabulate 7 (draw_start 1459 two_dropped) ≡ 0 ∷ 4 ∷ 6 ∷ 10 ∷ 12 ∷ 14 ∷ 16 ∷ []
  pub dropped : tabulate 6 (λ i. (draw_at 1459 two_dropped i).dropped) ≡ 1 ∷ 0 ∷ 1 ∷ 0 ∷ 0 ∷ 0 ∷ []
  pub enough : (draws_below 1459 6 two_dropped).enough ≡ true
  -- 36 is dropped, and 99 is 35 modulo 64
  pub at_36 : draw_below 36 (0x24 ∷ 0x63 ∷ []) ≡ record { values = 35 ∷ []; groups = 2; dropped = 1; enough = true }
  -- 128 has 8 bits: 128 and 255 are dropped
  pub at_128 : draw_below 128 (0x80 ∷ 0xFF ∷ 0x7F ∷ []) ≡ record { values = 127 ∷ []; groups = 3; dropped = 2; enough = true }
  -- 65521 has 16 bits, two octets: 65521 is dropped, and 65520 kept
  pub at_65521 : draw_below 65521 (0xF1 ∷ 0xFF ∷ 0xF0 ∷ 0xFF ∷ []) ≡ record { values = 65520 ∷ []; groups = 2; dropped = 1; enough = true }
  -- 1459 and 1460 are dropped, and the last octet is no group
  pub unfinished_draw :
      draw_below 1459 (0xB3 ∷ 0x05 ∷ 0xB4 ∷ 0x05 ∷ 0x01 ∷ []) ≡ record { values = []; groups = 2; dropped = 2; enough = false }
  pub unfinished_run :
      draws_below 1459 2 (0x01 ∷ 0x00 ∷ 0xB3 ∷ 0x05 ∷ 0xB2 ∷ []) ≡ record { values = 1 ∷ []; groups = 2; dropped = 1; enough = false }
  pub keygen-fixed : keygen_fixed set_a ≡ 10
  pub encrypt-fixed : encrypt_fixed set_a ≡ 18

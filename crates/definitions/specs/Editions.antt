-- 02, Q-7: what the edition of a set changes, and what it leaves. The theorems about keys and lists of calls (Demand3.antt and its kin) are about
-- every set, so about both editions; here the two are compared.
--
--   in_edition        a set with its edition replaced
--   EditionJudged    the set's number, whatever its edition: that of 1 to 5 where one applies, otherwise 18 where the edition is neither 1 nor 2
--   SetRefused       every call answers this number and leaves all outputs and the work words;  SetJudged: so it is with the number of a refused set
--   constant_draws    what edition 2 draws for the constant, and throws away: n draws below q
--   with_constant     edition 1's keys, with the octets and the dropped groups of those draws added
--   second_of         edition 2's answer, from edition 1's for the same octets: a refusal stays; keys become with_constant where the octets after those
--                    used suffice for the constant; otherwise it is 9
--   SecondEdition    for every set, octets and lengths, key generation in edition 2 answers so: number, outputs, and whether the work words stay
--   SamePair         keys of the two editions with equal secret, public key and dropped elements
--   SameKeysOf       what edition 1 makes, edition 2 makes from the octets used and any that suffice behind them; what edition 2 makes, edition 1
--                    makes from the same octets, and from those of them that edition 1 uses, with any behind; the refusals are the same but for 9,
--                    and 9 in edition 1 is 9 in edition 2;  SameKeys: for every set and all lengths
--   FixedParts       the fixed part of edition 2 has qlen octets more for each of the n coefficients
--   SameAnswersOf    every call but key generation answers alike under two sets;  SameAnswers: under a set in either edition
--   NumbersNamed     six numbers name a set in edition 1, seven one in the edition that stands last
--   LinesRead        a line of six numbers, and one of seven, is answered by the limits of the set that they name
--   SameLines        a line of seven numbers whose last is 1 or 2 is answered like that of the first six
--   edition_rows      Q-7's rows: keys, the place of 18, roomsheet's lines
--   EditionsWitnessed    an accepted set of edition 2, a zero of a key and a legal list under it, its fixed part, octets that suffice for the constant,
--                    two lines as SameLines asks for them; what a caller has of keys in both editions, of 9 in edition 2 alone and of 18; the numbers
--                    9 and 6 in edition 1: no hypothesis is empty
-- Assumes nothing.
use Rattle.std.specs.Prelude.{ℕ, ◌+◌, ◌*◌, ◌≡◌, ◌↔◌, true, cond, List, [], ◌∷◌, ◌++◌, map, eqb, length, take, drop, replicate}
use Rattle.definitions.specs.Sequences.{joined}
use Rattle.definitions.specs.Refusals.{first_refusal, Answer, untouched, refused, accepted, number}
use Rattle.definitions.specs.Parameters.{Parameters, one_or_two, set_tests, qlen, limits_answer, lengths_answer}
use Rattle.definitions.specs.Draws.{Drawn, draws_below, octets_used}
use Rattle.definitions.specs.Calls.{KeyPair, keygen_answer, keygen_exit, is_zero_answer, encrypt_answer, add_answer, decrypt_answer}
use Rattle.definitions.specs.Conversions.{from_octets_answer, to_octets_answer, packed_from_answer, packed_to_answer}
use Rattle.definitions.specs.MultiplyAdd.{multiply_add_answer}
use Rattle.definitions.specs.Roomsheet.{Text, decimal_text, well_formed, numbers_of, set_of, line_limits, line_answer}
use Rattle.definitions.specs.WorkedCases.{Row, row, set_a_with, set_a, key_random, secret_a, key_a, told_keys}
use Rattle.definitions.specs.Demand3.{AcceptedSet, ZeroOf}
use Rattle.definitions.specs.DroppedGroups.{keygen_fixed, keys_left_by}
use Rattle.definitions.specs.DroppedElements.{elements_random, set_crossing, crossing_random, crossing_keys}
use Rattle.definitions.specs.Ledger.{given_by, Legal}
use Rattle.definitions.specs.Witness.{set_b, key_b, calls_b}

abbrev pub in_edition : ℕ → Parameters → Parameters
in_edition edition p = record { l = p.l; q = p.q; n = p.n; dx = p.dx; dr = p.dr; mlen = p.mlen; edition = edition }

-- ---- 18

abbrev pub EditionJudged : Type 0
EditionJudged =
    (p : Parameters) (edition : ℕ) →
    (let earlier = first_refusal (set_tests (in_edition 1 p)) in
    first_refusal (set_tests (in_edition edition p)) ≡ cond (eqb earlier 0) (cond (one_or_two edition) 0 18) earlier)

pub record SetRefused (p : Parameters) (k : ℕ) : Type 0 where
  pub limits : limits_answer p ≡ untouched k
  pub lengths : lengths_answer p ≡ untouched k
  pub keygen : (random : List ℕ) (secret_len public_len work_len : ℕ) → keygen_answer p random secret_len public_len work_len ≡ untouched k
  pub is_zero : (secret public : List ℕ) (work_len : ℕ) → is_zero_answer p secret public work_len ≡ untouched k
  pub encrypt : (public message random : List ℕ) (ciphertext_len work_len : ℕ) → encrypt_answer p public message random ciphertext_len work_len ≡ untouched k
  pub add : (a b : List ℕ) (sum_len : ℕ) → add_answer p a b sum_len ≡ untouched k
  pub decrypt : (secret ciphertext : List ℕ) (message_len work_len : ℕ) → decrypt_answer p secret ciphertext message_len work_len ≡ untouched k
  pub multiply_add : (a b c : List ℕ) → multiply_add_answer p a b c ≡ untouched k
  pub from_octets : (elements : ℕ) (octets : List ℕ) (words_len : ℕ) → from_octets_answer p elements octets words_len ≡ untouched k
  pub to_octets : (elements : ℕ) (words : List ℕ) (octets_len : ℕ) → to_octets_answer p elements words octets_len ≡ untouched k
  pub packed_from : (elements : ℕ) (octets : List ℕ) (words_len : ℕ) → packed_from_answer p elements octets words_len ≡ untouched k
  pub packed_to : (elements : ℕ) (words : List ℕ) (octets_len : ℕ) → packed_to_answer p elements words octets_len ≡ untouched k

abbrev pub SetJudged : Type 0
SetJudged = (p : Parameters) (k : ℕ) → (k ≡ 0 → ⊥) → first_refusal (set_tests p) ≡ k → SetRefused p k

-- ---- keys

abbrev pub constant_draws : Parameters → List ℕ → Drawn ℕ
constant_draws p random = draws_below p.q p.n random

abbrev pub with_constant : Parameters → KeyPair → Drawn ℕ → KeyPair
with_constant p keys constant =
    record {
      secret = keys.secret;
      public = keys.public;
      used = keys.used + octets_used p.q constant;
      dropped_groups = keys.dropped_groups + constant.dropped;
      dropped_elements = keys.dropped_elements;
    }

abbrev pub second_of : Parameters → List ℕ → Answer KeyPair → Answer KeyPair
second_of p random (untouched k) = untouched k
second_of p random (refused k) = refused k
second_of p random (accepted keys) =
    cond
    (constant_draws p (drop keys.used random)).enough
    (accepted (with_constant p keys (constant_draws p (drop keys.used random))))
    (refused 9)

abbrev pub SecondEdition : Type 0
SecondEdition =
    (p : Parameters) (random : List ℕ) (secret_len public_len work_len : ℕ) →
    keygen_answer (in_edition 2 p) random secret_len public_len work_len
    ≡ second_of p random (keygen_answer (in_edition 1 p) random secret_len public_len work_len)

pub record SamePair (first second : KeyPair) : Type 0 where
  pub secret : second.secret ≡ first.secret
  pub public : second.public ≡ first.public
  pub elements : second.dropped_elements ≡ first.dropped_elements

-- made: what key generation answers in an edition from random octets, for one set and buffers of some lengths
pub record SameKeysOf (p : Parameters) (made : ℕ → List ℕ → Answer KeyPair) : Type 0 where
  pub onward :
      (random later : List ℕ) (first : KeyPair) → made 1 random ≡ accepted first → (constant_draws p later).enough ≡ true →
      (let second = with_constant p first (constant_draws p later) in
      (made 2 (take first.used random ++ later) ≡ accepted second) × SamePair first second)
  -- the last part, by KeygenNeeds: the earlier octets suffice
  pub back :
      (random : List ℕ) (second : KeyPair) → made 2 random ≡ accepted second →
      (first : KeyPair) × (made 1 random ≡ accepted first) × SamePair first second
      × ((later : List ℕ) → made 1 (take first.used random ++ later) ≡ accepted first)
  pub refusals : (random : List ℕ) (k : ℕ) → (k ≡ 0 → ⊥) → (k ≡ 9 → ⊥) → number (made 1 random) ≡ k ↔ number (made 2 random) ≡ k
  pub exhausted : (random : List ℕ) → number (made 1 random) ≡ 9 → number (made 2 random) ≡ 9

abbrev pub SameKeys : Type 0
SameKeys =
    (p : Parameters) (secret_len public_len work_len : ℕ) →
    SameKeysOf p (λ edition random. keygen_answer (in_edition edition p) random secret_len public_len work_len)

abbrev pub FixedParts : Type 0
FixedParts = (p : Parameters) → keygen_fixed (in_edition 2 p) ≡ keygen_fixed (in_edition 1 p) + qlen p.q * p.n

-- ---- all other calls

pub record SameAnswersOf (a b : Parameters) : Type 0 where
  pub check : first_refusal (set_tests a) ≡ first_refusal (set_tests b)
  pub limits : limits_answer a ≡ limits_answer b
  pub lengths : lengths_answer a ≡ lengths_answer b
  pub is_zero : (secret public : List ℕ) (work_len : ℕ) → is_zero_answer a secret public work_len ≡ is_zero_answer b secret public work_len
  pub encrypt :
      (public message random : List ℕ) (ciphertext_len work_len : ℕ) →
      encrypt_answer a public message random ciphertext_len work_len ≡ encrypt_answer b public message random ciphertext_len work_len
  pub add : (x y : List ℕ) (sum_len : ℕ) → add_answer a x y sum_len ≡ add_answer b x y sum_len
  pub decrypt :
      (secret ciphertext : List ℕ) (message_len work_len : ℕ) →
      decrypt_answer a secret ciphertext message_len work_len ≡ decrypt_answer b secret ciphertext message_len work_len
  pub multiply_add : (x y z : List ℕ) → multiply_add_answer a x y z ≡ multiply_add_answer b x y z
  pub from_octets : (elements : ℕ) (octets : List ℕ) (words_len : ℕ) → from_octets_answer a elements octets words_len ≡ from_octets_answer b elements octets words_len
  pub to_octets : (elements : ℕ) (words : List ℕ) (octets_len : ℕ) → to_octets_answer a elements words octets_len ≡ to_octets_answer b elements words octets_len
  pub packed_from : (elements : ℕ) (octets : List ℕ) (words_len : ℕ) → packed_from_answer a elements octets words_len ≡ packed_from_answer b elements octets words_len
  pub packed_to : (elements : ℕ) (words : List ℕ) (octets_len : ℕ) → packed_to_answer a elements words octets_len ≡ packed_to_answer b elements words octets_len

abbrev pub SameAnswers : Type 0
SameAnswers = (p : Parameters) → SameAnswersOf (in_edition 1 p) (in_edition 2 p)

-- ---- roomsheet

pub record NumbersNamed : Type 0 where
  pub six : (p : Parameters) → set_of (p.l ∷ p.q ∷ p.n ∷ p.dx ∷ p.dr ∷ p.mlen ∷ []) ≡ in_edition 1 p
  pub seven : (p : Parameters) → set_of (p.l ∷ p.q ∷ p.n ∷ p.dx ∷ p.dr ∷ p.mlen ∷ p.edition ∷ []) ≡ p

pub record LinesRead : Type 0 where
  pub six : (line : Text) → well_formed 6 line ≡ true → line_limits line ≡ limits_answer (in_edition 1 (set_of (numbers_of line)))
  pub seven : (line : Text) → well_formed 7 line ≡ true → line_limits line ≡ limits_answer (set_of (numbers_of line))

abbrev pub SameLines : Type 0
SameLines =
    (line longer : Text) (edition : ℕ) → well_formed 6 line ≡ true → well_formed 7 longer ≡ true →
    numbers_of longer ≡ numbers_of line ++ (edition ∷ []) → one_or_two edition ≡ true → line_answer longer ≡ line_answer line

-- ---- rows

-- worked case 2's octets, then 1459, which is dropped, 1 and 2 for the constant
abbrev pub both_random : List ℕ
both_random = key_random ++ (0xB3 ∷ 0x05 ∷ 0x01 ∷ 0x00 ∷ 0x02 ∷ 0x00 ∷ [])

-- keys whose secret has 2 octets and whose public key has 12
keys_of : Parameters → List ℕ → List ℕ
keys_of p random = told_keys (keygen_answer p random 2 12 16)

-- dX 2 and one octet a coefficient: u_x = t, u_y = 1 + t, terms of 1 to 10; in edition 2 the group 101 is dropped, then 11 and 12 are
-- drawn for the constant
set_square : Parameters
set_square = record { l = 2; q = 101; n = 2; dx = 2; dr = 1; mlen = 0; edition = 1 }

square_terms : List ℕ
square_terms = 1 ∷ 2 ∷ 3 ∷ 4 ∷ 5 ∷ 6 ∷ 7 ∷ 8 ∷ 9 ∷ 10 ∷ []

square_random : List ℕ
square_random = 0x02 ∷ 0x03 ∷ (square_terms ++ (101 ∷ 11 ∷ 12 ∷ []))

-- with three octets a coefficient: 76507 is dropped, then 1, 2 and 3 are drawn for the constant
constant_random : List ℕ
constant_random = crossing_random ++ (0xDB ∷ 0x2A ∷ 0x01 ∷ 0x01 ∷ 0x00 ∷ 0x00 ∷ 0x02 ∷ 0x00 ∷ 0x00 ∷ 0x03 ∷ 0x00 ∷ 0x00 ∷ [])

-- numbers, each with a space behind it, then a last field
line_of : List ℕ → Text → Text
line_of numbers last = joined (map (λ x. decimal_text x ++ (32 ∷ [])) numbers) ++ last

-- set A's six numbers and a seventh field
line_a : Text → Text
line_a last = line_of (4 ∷ 1459 ∷ 2 ∷ 1 ∷ 1 ∷ 4 ∷ []) last

unfoldable pub line_six : Text
unfolding line_of
line_six = line_of (4 ∷ 1459 ∷ 2 ∷ 1 ∷ 1 ∷ []) (decimal_text 4)

unfoldable pub line_seven : Text
unfolding line_a line_of
line_seven = line_a (decimal_text 2)

unfoldable pub edition_rows : List Row
unfolding row keys_of set_square square_terms square_random set_crossing crossing_random crossing_keys constant_random line_of line_a line_six line_seven
edition_rows =
    -- worked case 2: in edition 2 its 10 octets are too few; with more behind them the keys are the same
    row (keys_of (in_edition 2 set_a) key_random) (9 ∷ [])
    ∷ row (keys_of (in_edition 2 set_a) both_random) (0 ∷ 16 ∷ 1 ∷ 0 ∷ 2 ∷ (secret_a ++ key_a))
    ∷ row (keys_of (in_edition 1 set_a) both_random) (0 ∷ 10 ∷ 0 ∷ 0 ∷ 2 ∷ (secret_a ++ key_a))
    -- the last group is not complete; a dropped one between; octets behind the last draw; dropped elements and groups before
    ∷ row (keys_of (in_edition 2 set_a) (take 15 both_random)) (9 ∷ [])
    ∷ row (keys_of (in_edition 2 set_a) (key_random ++ (0x01 ∷ 0x00 ∷ 0xB3 ∷ 0x05 ∷ 0x02 ∷ 0x00 ∷ []))) (0 ∷ 16 ∷ 1 ∷ 0 ∷ 2 ∷ (secret_a ++ key_a))
    ∷ row (keys_of (in_edition 2 set_a) (key_random ++ (0x01 ∷ 0x00 ∷ 0x02 ∷ 0x00 ∷ 0xFF ∷ []))) (0 ∷ 14 ∷ 0 ∷ 0 ∷ 2 ∷ (secret_a ++ key_a))
    ∷ row (keys_of (in_edition 2 set_a) (elements_random ++ (0x01 ∷ 0x00 ∷ 0x02 ∷ 0x00 ∷ []))) (0 ∷ 19 ∷ 1 ∷ 3 ∷ 2 ∷ (secret_a ++ key_a))
    -- dX 2: the constant is minus the value of the others, 57 + 57t, and not what was drawn for it
    ∷ row (keys_of (in_edition 1 set_square) square_random) (0 ∷ 12 ∷ 0 ∷ 0 ∷ 2 ∷ 0x02 ∷ 0x03 ∷ (square_terms ++ (44 ∷ 44 ∷ [])))
    ∷ row (keys_of (in_edition 2 set_square) square_random) (0 ∷ 15 ∷ 1 ∷ 0 ∷ 2 ∷ 0x02 ∷ 0x03 ∷ (square_terms ++ (44 ∷ 44 ∷ [])))
    -- 2049 is 1 modulo 2048, and a top coefficient of 0 is kept: only elements of the secret are dropped for that
    ∷ row (keys_of (in_edition 2 set_a) (key_random ++ (0x01 ∷ 0x08 ∷ 0x00 ∷ 0x00 ∷ []))) (0 ∷ 14 ∷ 0 ∷ 0 ∷ 2 ∷ (secret_a ++ key_a))
    -- the last group is dropped
    ∷ row (keys_of (in_edition 2 set_a) (key_random ++ (0x01 ∷ 0x00 ∷ 0xB3 ∷ 0x05 ∷ []))) (9 ∷ [])
    -- n 3: three coefficients for the constant
    ∷ row (told_keys (keygen_answer (in_edition 2 set_crossing) constant_random 4 27 24)) (0 ∷ 38 ∷ 1 ∷ 2 ∷ 4 ∷ crossing_keys)
    -- 18: neither 1 nor 2; after 5, before 6
    ∷ row (keys_of (in_edition 0 set_a) both_random) (18 ∷ [])
    ∷ row (keys_of (in_edition 3 set_a) both_random) (18 ∷ [])
    ∷ row (keys_of (in_edition 3 (set_a_with 3)) both_random) (5 ∷ [])
    ∷ row (told_keys (keygen_answer (in_edition 3 set_a) both_random 1 12 16)) (18 ∷ [])
    ∷ row (told_keys (keygen_answer (in_edition 2 set_a) both_random 1 12 16)) (6 ∷ [])
    -- roomsheet: seven numbers, edition 1 and 2, and the same line with six
    ∷ row (line_answer (line_a (decimal_text 1))) (48 ∷ 32 ∷ 49 ∷ 52 ∷ 53 ∷ 53 ∷ 32 ∷ 49 ∷ [])
    ∷ row (line_answer line_seven) (48 ∷ 32 ∷ 49 ∷ 52 ∷ 53 ∷ 53 ∷ 32 ∷ 49 ∷ [])
    ∷ row (line_answer line_six) (48 ∷ 32 ∷ 49 ∷ 52 ∷ 53 ∷ 53 ∷ 32 ∷ 49 ∷ [])
    -- 18, also for an edition that is 1 in its last octet, and for the largest; 4 and 5 before it
    ∷ row (line_answer (line_a (decimal_text 0))) (49 ∷ 56 ∷ [])
    ∷ row (line_answer (line_a (decimal_text 257))) (49 ∷ 56 ∷ [])
    ∷ row (line_answer (line_a (decimal_text 4294967295))) (49 ∷ 56 ∷ [])
    ∷ row (line_answer (line_of (4 ∷ 1455 ∷ 2 ∷ 1 ∷ 1 ∷ 4 ∷ []) (decimal_text 2))) (52 ∷ [])
    ∷ row (line_answer (line_of (4 ∷ 1455 ∷ 2 ∷ 1 ∷ 1 ∷ 4 ∷ []) (decimal_text 3))) (52 ∷ [])
    ∷ row (line_answer (line_of (4 ∷ 1459 ∷ 2 ∷ 1 ∷ 1 ∷ 3 ∷ []) (decimal_text 3))) (53 ∷ [])
    -- 11 for a needless zero, also of edition 0, for 2^32 + 1, for a space behind six numbers, for five numbers and for eight
    ∷ row (line_answer (line_a (48 ∷ 49 ∷ []))) (49 ∷ 49 ∷ [])
    ∷ row (line_answer (line_a (48 ∷ 48 ∷ []))) (49 ∷ 49 ∷ [])
    ∷ row (line_answer (line_a (decimal_text 4294967297))) (49 ∷ 49 ∷ [])
    ∷ row (line_answer (line_a [])) (49 ∷ 49 ∷ [])
    ∷ row (line_answer (line_of (4 ∷ 1459 ∷ 2 ∷ 1 ∷ []) (decimal_text 1))) (49 ∷ 49 ∷ [])
    ∷ row (line_answer (line_of (4 ∷ 1459 ∷ 2 ∷ 1 ∷ 1 ∷ 4 ∷ 3 ∷ []) (decimal_text 1))) (49 ∷ 49 ∷ [])
    ∷ []

-- ---- the witness

pub record EditionsWitnessed : Type 0 where
  pub set : AcceptedSet (in_edition 2 set_b)
  pub zero : ZeroOf (in_edition 2 set_b) key_b secret_a
  pub legal : Legal (in_edition 2 set_b) key_b [] calls_b
  pub given : length (given_by (in_edition 2 set_b) [] calls_b) ≡ 3
  pub judged : first_refusal (set_tests (in_edition 3 set_a)) ≡ 18
  pub fixed : keygen_fixed (in_edition 2 set_a) ≡ 14
  pub six : well_formed 6 line_six ≡ true
  pub seven : well_formed 7 line_seven ≡ true
  pub numbers : numbers_of line_seven ≡ numbers_of line_six ++ (2 ∷ [])
  -- what SameKeys asks of the octets behind worked case 2's, and of its refusals: 9, and one that is not 9
  pub suffice : constant_draws set_a (drop 10 both_random) ≡ record { values = 1 ∷ 2 ∷ []; groups = 3; dropped = 1; enough = true }
  pub exhausted-first : number (keygen_answer (in_edition 1 set_a) (take 9 key_random) 2 12 16) ≡ 9
  pub refused-first : number (keygen_answer (in_edition 1 set_a) both_random 1 12 16) ≡ 6
  pub made-first :
      keys_left_by (in_edition 1 set_a) both_random
      ≡ record { refusal = 0; secret = secret_a; public = key_a; used = 10; dropped_groups = 0; dropped_elements = 0; work = replicate 16 0 }
  pub made-second :
      keys_left_by (in_edition 2 set_a) both_random
      ≡ record { refusal = 0; secret = secret_a; public = key_a; used = 16; dropped_groups = 1; dropped_elements = 0; work = replicate 16 0 }
  pub exhausted-second :
      keys_left_by (in_edition 2 set_a) key_random
      ≡ record { refusal = 9; secret = replicate 2 255; public = replicate 12 255; used = 98; dropped_groups = 99; dropped_elements = 96; work = replicate 16 0 }
  -- 18 leaves the work words; here a length is wrong as well
  pub refused-edition :
      keygen_exit (in_edition 3 set_a) both_random (replicate 2 255) (replicate 11 255) 98 99 96 (replicate 16 97)
      ≡ record { refusal = 18; secret = replicate 2 255; public = replicate 11 255; used = 98; dropped_groups = 99; dropped_elements = 96; work = replicate 16 97 }

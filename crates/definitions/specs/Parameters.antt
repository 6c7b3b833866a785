-- 01, "The parameter set", with 02, Q-7, and the lengths that "Ring, monomials, octets" fixes by it.
--
--   Parameters       the seven numbers: l (01: ℓ), q, n, dx (dX), dr, mlen, and the edition of the draws (02, Q-7)
--   degree           D = dX + dr, the degree of a ciphertext
--   small_bits        b: 1, 2, 3, 4 for ℓ 2, 4, 8, 16
--   term_sum          S, the sum over k from 0 to D of (k + 1) × n^k × (ℓ - 1)^(k + 1)
--   bound            B = ℓ - 1 + ℓ × S (01: the bound)
--   headroom         the largest whole number s with s × B < q: proofs/Parameters.antt shows that (q - 1) / B is it
--   range_fits, ring_fits, degree_fits, modulus_fits, message_fits, edition_fits    that tests 1, 2, 3, 4, 5, 18 do not apply
--   set_tests         tests 1 to 5, then 18, in order
--   bit_length        32 minus the leading zeros of q
--   qlen             the octets of a coefficient: the bit length of q divided by 8, rounded up
--   monomial_count    (d + 1)(d + 2)/2, the number of monomials of total degree at most d
--   elements_length   the octets of so many ring elements
--   small_length      ⌈n × b / 8⌉;  secret_length, public_length, ciphertext_length, message_length: the octets of each
--   work_length       8 × n words of 32 bits
--   limits_of         the bound and the headroom of a set;  lengths_of: its lengths
--   limits_answer     the bound and the headroom of an accepted set, or the refusal;  lengths_answer: the lengths
--   limits_exit, lengths_exit  the number and the outputs at exit, from what they held before: what contracts equate
-- Assumes nothing.
use Rattle.std.specs.Prelude.{ℕ, suc, ◌+◌, ◌-◌, ◌*◌, ◌/◌, ◌%◌, ◌^◌, Bool, cond, ◌&&◌, ◌||◌, not, List, [], ◌∷◌, eqb, leb, ltb}
use Rattle.std.specs.Int.Count.{count_leading_zeros}
use Rattle.definitions.specs.Sequences.{sum}
use Rattle.definitions.specs.Refusals.{Test, refuse, Answer, answer, number, output}

pub record Parameters : Type 0 where
  pub l : ℕ
  pub q : ℕ
  pub n : ℕ
  pub dx : ℕ
  pub dr : ℕ
  pub mlen : ℕ
  pub edition : ℕ

abbrev pub degree : Parameters → ℕ
degree p = p.dx + p.dr

unfoldable pub small_bits : ℕ → ℕ
small_bits l = cond (eqb l 2) 1 (cond (eqb l 4) 2 (cond (eqb l 8) 3 4))

unfoldable pub term_sum : Parameters → ℕ
term_sum p = sum (suc (degree p)) (λ k. (k + 1) * p.n ^ k * (p.l - 1) ^ (k + 1))

unfoldable pub bound : Parameters → ℕ
bound p = p.l - 1 + p.l * term_sum p

unfoldable pub headroom : Parameters → ℕ
headroom p = (p.q - 1) / bound p

unfoldable pub range_fits : Parameters → Bool
range_fits p = eqb p.l 2 || (eqb p.l 4 || (eqb p.l 8 || eqb p.l 16))

unfoldable pub ring_fits : Parameters → Bool
ring_fits p = leb 2 p.n && leb p.n 4096

abbrev pub one_or_two : ℕ → Bool
one_or_two x = eqb x 1 || eqb x 2

unfoldable pub degree_fits : Parameters → Bool
degree_fits p = one_or_two p.dx && one_or_two p.dr

unfoldable pub modulus_fits : Parameters → Bool
modulus_fits p = leb p.q 2147483647 && ltb (bound p) p.q

unfoldable pub message_fits : Parameters → Bool
message_fits p = leb p.mlen (p.n * small_bits p.l) && eqb (p.mlen % small_bits p.l) 0

unfoldable pub edition_fits : Parameters → Bool
edition_fits p = one_or_two p.edition

unfoldable pub set_tests : Parameters → List Test
set_tests p =
    refuse 1 (not (range_fits p))
    ∷ refuse 2 (not (ring_fits p))
    ∷ refuse 3 (not (degree_fits p))
    ∷ refuse 4 (not (modulus_fits p))
    ∷ refuse 5 (not (message_fits p))
    ∷ refuse 18 (not (edition_fits p))
    ∷ []

unfoldable pub bit_length : ℕ → ℕ
bit_length q = 32 - count_leading_zeros 32 q

unfoldable pub qlen : ℕ → ℕ
qlen q = (bit_length q + 7) / 8

unfoldable pub monomial_count : ℕ → ℕ
monomial_count d = (d + 1) * (d + 2) / 2

unfoldable pub small_length : Parameters → ℕ
small_length p = (p.n * small_bits p.l + 7) / 8

unfoldable pub secret_length : Parameters → ℕ
secret_length p = small_length p + small_length p

unfoldable pub elements_length : Parameters → ℕ → ℕ
elements_length p elements = elements * p.n * qlen p.q

unfoldable pub public_length : Parameters → ℕ
public_length p = elements_length p (monomial_count p.dx)

unfoldable pub ciphertext_length : Parameters → ℕ
ciphertext_length p = elements_length p (monomial_count (degree p))

unfoldable pub message_length : Parameters → ℕ
message_length p = (p.mlen + 7) / 8

unfoldable pub work_length : Parameters → ℕ
work_length p = 8 * p.n

pub record Limits : Type 0 where
  pub bound : ℕ
  pub headroom : ℕ

abbrev pub limits_of : Parameters → Limits
limits_of p = record { bound = bound p; headroom = headroom p }

unfoldable pub limits_answer : Parameters → Answer Limits
limits_answer p = answer (set_tests p) [] (limits_of p)

pub record Lengths : Type 0 where
  pub secret : ℕ
  pub public : ℕ
  pub message : ℕ
  pub ciphertext : ℕ
  pub work : ℕ

abbrev pub lengths_of : Parameters → Lengths
lengths_of p =
    record {
      secret = secret_length p;
      public = public_length p;
      message = message_length p;
      ciphertext = ciphertext_length p;
      work = work_length p;
    }

unfoldable pub lengths_answer : Parameters → Answer Lengths
lengths_answer p = answer (set_tests p) [] (lengths_of p)

-- ---- what the caller has at exit: the number and every output

pub record LimitsExit : Type 0 where
  pub refusal : ℕ
  pub limits : Limits

unfoldable pub limits_exit : Parameters → Limits → LimitsExit
limits_exit p old = record { refusal = number (limits_answer p); limits = output (λ l. l) (limits_answer p) old }

pub record LengthsExit : Type 0 where
  pub refusal : ℕ
  pub lengths : Lengths

unfoldable pub lengths_exit : Parameters → Lengths → LengthsExit
lengths_exit p old = record { refusal = number (lengths_answer p); lengths = output (λ l. l) (lengths_answer p) old }

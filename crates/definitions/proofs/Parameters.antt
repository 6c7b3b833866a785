-- What 01 says in words of the numbers that a parameter set fixes: the headroom is the largest, the bit length is exact, qlen octets hold q.
--
--   headroom-..       headroom p is the largest s with s × B below q
--   small_bits-..      b bits hold exactly the numbers below ℓ
--   Passed            the six tests that an accepted set passes;  Accepted: what they say, a field for each comparison
--   bit_length-..      q has just that many bits;  qlen-..: and just that many octets
--   ..-degree-most    dX and dr are at most 2;  modulus-least: q is at least 36
--   elements_length-count  the coefficients of so many elements;  small_length-room: the octets of a small element have room for its bits;
--                    small_length-least: there is one at least
-- Assumes nothing.
use Prim.Native.Nat.{ℕ, suc, ◌+◌, ◌-◌, ◌*◌, ◌/◌, ◌%◌, ◌^◌, ◌≤◌, ◌<◌}
use mathlib.Core.Path.{◌≡◌, refl, sym, subst}
use mathlib.Core.Logic.{◌⊎◌, inl, inr, ⊎_elim}
use mathlib.Core.Bool.{true}
use native.Mathlib.Nat.{div-add-mod', div-mul-le_self, mul-div_cancel, le-div_iff_mul-le, lt_of_lt_of_le, mul-le-mul, mul-le-mul_left, pow-le-pow_left, one-le-pow}
use native.Mathlib.Omega.{arith}
use borrow.Author.Tests.{eqb-true, leb-true, ltb-true, not-false}
use lib.Count.{count_leading_zeros, leading_top, leading_length}
use lib.Pow.{pow_mono}
use Rattle.definitions.specs.Refusals.{first_refusal}
use Rattle.definitions.specs.Sequences.{sum}
use Rattle.definitions.specs.Parameters.{Parameters, degree, small_bits, term_sum, bound, headroom, range_fits, ring_fits, one_or_two, degree_fits, modulus_fits, message_fits, edition_fits, set_tests, bit_length, qlen, small_length, secret_length, elements_length}
use Rattle.definitions.proofs.Sums.{sum-append}
use Rattle.definitions.proofs.Powers.{pow-octets}
use Rattle.definitions.proofs.Tests.{both_true, either_true}
use Rattle.definitions.proofs.Refusals.{Numbered, first_refusal_passed}

-- ---- the headroom

pub headroom-fits : (p : Parameters) → 0 < p.q → headroom p * bound p < p.q
unfolding headroom
headroom-fits p pos = omega (arith, div-mul-le_self (p.q - 1) (bound p))

pub headroom-largest : (p : Parameters) (s : ℕ) → 0 < bound p → s * bound p < p.q → s ≤ headroom p
unfolding headroom
headroom-largest p s pos h = (le-div_iff_mul-le pos).1 (omega arith)

-- ---- the small coefficients

pub range_cases : (p : Parameters) → range_fits p ≡ true → (p.l ≡ 2) ⊎ ((p.l ≡ 4) ⊎ ((p.l ≡ 8) ⊎ (p.l ≡ 16)))
unfolding range_fits
range_cases p e =
    ⊎_elim (λ a. inl (eqb-true _ _ a))
    (λ b. ⊎_elim (λ a. inr (inl (eqb-true _ _ a)))
    (λ c. ⊎_elim (λ a. inr (inr (inl (eqb-true _ _ a)))) (λ d. inr (inr (inr (eqb-true _ _ d)))) (either_true _ _ c))
    (either_true _ _ b))
    (either_true _ _ e)

-- a statement on ℓ that holds at 2, 4, 8 and 16 holds for a set in range
range_elim : (P : ℕ → Type 0) → P 2 → P 4 → P 8 → P 16 → (p : Parameters) → range_fits p ≡ true → P p.l
range_elim P at2 at4 at8 at16 p e =
    ⊎_elim (λ a. subst P (sym a) at2)
    (λ b. ⊎_elim (λ a. subst P (sym a) at4) (λ c. ⊎_elim (λ a. subst P (sym a) at8) (λ a. subst P (sym a) at16) c) b)
    (range_cases p e)

-- the numbers of b bits are those below ℓ
pub small_bits-power : (p : Parameters) → range_fits p ≡ true → p.l ≡ 2 ^ small_bits p.l
unfolding small_bits
small_bits-power p e = range_elim (λ (l : ℕ). l ≡ 2 ^ small_bits l) refl refl refl refl p e

pub small_bits-least : (p : Parameters) → range_fits p ≡ true → 1 ≤ small_bits p.l
unfolding small_bits
small_bits-least p e = range_elim (λ (l : ℕ). 1 ≤ small_bits l) (omega arith) (omega arith) (omega arith) (omega arith) p e

pub small_bits-most : (p : Parameters) → range_fits p ≡ true → small_bits p.l ≤ 4
unfolding small_bits
small_bits-most p e = range_elim (λ (l : ℕ). small_bits l ≤ 4) (omega arith) (omega arith) (omega arith) (omega arith) p e

pub range_least : (p : Parameters) → range_fits p ≡ true → 2 ≤ p.l
range_least p e = range_elim (λ (l : ℕ). 2 ≤ l) (omega arith) (omega arith) (omega arith) (omega arith) p e

pub range_most : (p : Parameters) → range_fits p ≡ true → p.l ≤ 16
range_most p e = range_elim (λ (l : ℕ). l ≤ 16) (omega arith) (omega arith) (omega arith) (omega arith) p e

pub bound_positive : (p : Parameters) → range_fits p ≡ true → 0 < bound p
unfolding bound
bound_positive p e = omega (arith, range_least p e)

-- ---- an accepted set

pub record Accepted (p : Parameters) : Type 0 where
  pub range : range_fits p ≡ true
  pub ring_least : 2 ≤ p.n
  pub ring_most : p.n ≤ 4096
  pub key-degree : (p.dx ≡ 1) ⊎ (p.dx ≡ 2)
  pub mask-degree : (p.dr ≡ 1) ⊎ (p.dr ≡ 2)
  pub modulus-most : p.q ≤ 2147483647
  pub modulus_above : bound p < p.q
  pub message-most : p.mlen ≤ p.n * small_bits p.l
  pub message_multiple : p.mlen % small_bits p.l ≡ 0
  pub edition : (p.edition ≡ 1) ⊎ (p.edition ≡ 2)

-- the tests that an accepted set passes
pub record Passed (p : Parameters) : Type 0 where
  pub range : range_fits p ≡ true
  pub ring : ring_fits p ≡ true
  pub degrees : degree_fits p ≡ true
  pub modulus : modulus_fits p ≡ true
  pub message : message_fits p ≡ true
  pub edition : edition_fits p ≡ true

pub set_tests_numbered : (p : Parameters) → Numbered (set_tests p)
unfolding set_tests
set_tests_numbered p = (omega arith, (omega arith, (omega arith, (omega arith, (omega arith, (omega arith, tt))))))

pub passed_set : (p : Parameters) → first_refusal (set_tests p) ≡ 0 → Passed p
unfolding set_tests
passed_set p e =
    let a = first_refusal_passed 1 _ _ (omega arith) e in
    let b = first_refusal_passed 2 _ _ (omega arith) a.1 in
    let c = first_refusal_passed 3 _ _ (omega arith) b.1 in
    let d = first_refusal_passed 4 _ _ (omega arith) c.1 in
    let f = first_refusal_passed 5 _ _ (omega arith) d.1 in
    let g = first_refusal_passed 18 _ _ (omega arith) f.1 in
    record {
      range = not-false _ a.0;
      ring = not-false _ b.0;
      degrees = not-false _ c.0;
      modulus = not-false _ d.0;
      message = not-false _ f.0;
      edition = not-false _ g.0;
    }

pub one_or_two-cases : (d : ℕ) → one_or_two d ≡ true → (d ≡ 1) ⊎ (d ≡ 2)
one_or_two-cases d e = ⊎_elim (λ a. inl (eqb-true d 1 a)) (λ a. inr (eqb-true d 2 a)) (either_true _ _ e)

passed_accepted : (p : Parameters) → Passed p → Accepted p
unfolding ring_fits degree_fits modulus_fits message_fits edition_fits
passed_accepted p t =
    let ring = both_true _ _ t.ring in
    let degrees = both_true _ _ t.degrees in
    let modulus = both_true _ _ t.modulus in
    let message = both_true _ _ t.message in
    record {
      range = t.range;
      ring_least = leb-true _ _ ring.0;
      ring_most = leb-true _ _ ring.1;
      key-degree = one_or_two-cases p.dx degrees.0;
      mask-degree = one_or_two-cases p.dr degrees.1;
      modulus-most = leb-true _ _ modulus.0;
      modulus_above = ltb-true _ _ modulus.1;
      message-most = leb-true _ _ message.0;
      message_multiple = eqb-true _ _ message.1;
      edition = one_or_two-cases p.edition t.edition;
    }

pub accepted-set : (p : Parameters) → first_refusal (set_tests p) ≡ 0 → Accepted p
accepted-set p e = passed_accepted p (passed_set p e)

-- ---- the length of q in bits and in octets

pub bit_length-most : (q : ℕ) → bit_length q ≤ 32
unfolding bit_length
bit_length-most q = omega arith

pub bit_length_above : (q : ℕ) → q < 2 ^ 32 → q < 2 ^ bit_length q
unfolding bit_length
bit_length_above q h =
    let t = leading_length 32 q h in
    let e : 32 - count_leading_zeros 32 q ≡ t.0 = omega (arith, t.1) in
    rw e t.2

-- the place of the highest bit of q, one below its length
bit_length_top : (q : ℕ) → 0 < q → q < 2 ^ 32 → (j : ℕ) × (bit_length q ≡ suc j) × (2 ^ j ≤ q)
unfolding bit_length
bit_length_top q pos h = let t = leading_top 32 q pos h in (t.0, omega (arith, t.1), t.2)

pub bit_length_positive : (q : ℕ) → 0 < q → q < 2 ^ 32 → 1 ≤ bit_length q
bit_length_positive q pos h = omega (arith, (bit_length_top q pos h).1)

pub bit_length-below : (q : ℕ) → 0 < q → q < 2 ^ 32 → 2 ^ (bit_length q - 1) ≤ q
bit_length-below q pos h =
    let t = bit_length_top q pos h in
    let e : bit_length q - 1 ≡ t.0 = omega (arith, t.1) in
    rw e t.2

pub qlen-least : (q : ℕ) → 0 < q → q < 2 ^ 32 → 1 ≤ qlen q
unfolding qlen
qlen-least q pos h = omega (arith, bit_length_positive q pos h)

pub qlen-most : (q : ℕ) → qlen q ≤ 4
unfolding qlen
qlen-most q = omega (arith, bit_length-most q)

pub qlen_bits : (q : ℕ) → 2 ^ bit_length q ≤ 256 ^ qlen q
unfolding qlen
qlen_bits q =
    let h : bit_length q ≤ 8 * ((bit_length q + 7) / 8) = omega arith in
    rw pow-octets at (pow_mono h)

pub qlen-holds : (q : ℕ) → q < 2 ^ 32 → q < 256 ^ qlen q
qlen-holds q h = lt_of_lt_of_le (bit_length_above q h) (qlen_bits q)

-- ---- the least terms of an accepted set's bound: 1, 4 and 12

degree-least : (p : Parameters) → Accepted p → 2 ≤ degree p
degree-least p a = ⊎_elim (λ e. by_mask (omega arith)) (λ e. by_mask (omega arith)) a.key-degree
  where
    by_mask : 1 ≤ p.dx → 2 ≤ degree p
    by_mask l = ⊎_elim (λ e. omega arith) (λ e. omega arith) a.mask-degree

sum-three : (f : ℕ → ℕ) {d : ℕ} → 2 ≤ d → f 0 + f 1 + f 2 ≤ sum (suc d) f
sum-three f {d} l =
    let e : 3 + (d - 2) ≡ suc d = omega arith in
    subst (λ (n : ℕ). f 0 + f 1 + f 2 ≤ sum n f) e (rw (sum-append 3 (d - 2) f) (unfold sum in omega arith))

term_sum-least : (p : Parameters) → Accepted p → 17 ≤ term_sum p
unfolding term_sum
term_sum-least p a = omega (arith, sum-three (λ k. (k + 1) * p.n ^ k * (p.l - 1) ^ (k + 1)) (degree-least p a), term 0, term 1, term 2)
  where
    term : (k : ℕ) → (k + 1) * 2 ^ k * 1 ≤ (k + 1) * p.n ^ k * (p.l - 1) ^ (k + 1)
    term k = mul-le-mul (mul-le-mul_left (k + 1) (pow-le-pow_left a.ring_least k)) (one-le-pow (k + 1) (p.l - 1) (omega (arith, range_least p a.range)))

-- ---- the lengths of an accepted set

module _ (p : Parameters) (a : Accepted p) where
  pub key-degree-most : p.dx ≤ 2
  key-degree-most = ⊎_elim (λ e. omega arith) (λ e. omega arith) a.key-degree

  pub mask-degree-most : p.dr ≤ 2
  mask-degree-most = ⊎_elim (λ e. omega arith) (λ e. omega arith) a.mask-degree

  pub modulus_positive : 0 < p.q
  modulus_positive = omega (arith, a.modulus_above)

  -- the least bound is 35, at l 2, n 2 and degree 2
  pub modulus-least : 36 ≤ p.q
  unfolding bound
  modulus-least = omega (arith, a.modulus_above, mul-le-mul (range_least p a.range) (term_sum-least p a), range_least p a.range)

  pub modulus_word : p.q < 2 ^ 32
  modulus_word = omega (arith, a.modulus-most)

  -- so many elements have n coefficients each
  pub elements_length-count : (elements : ℕ) → elements_length p elements / qlen p.q ≡ elements * p.n
  unfolding elements_length
  elements_length-count elements = mul-div_cancel (elements * p.n) (qlen-least p.q modulus_positive modulus_word)

  -- a message is whole coefficients
  pub message_coefficients : p.mlen / small_bits p.l * small_bits p.l ≡ p.mlen
  message_coefficients = omega (arith, div-add-mod' p.mlen (small_bits p.l), a.message_multiple)

-- the octets of a small element have room for its bits
pub small_length-room : (p : Parameters) → p.n * small_bits p.l ≤ 8 * small_length p
unfolding small_length
small_length-room p = omega arith

pub small_length-least : (p : Parameters) → Accepted p → 0 < small_length p
small_length-least p a = omega (arith, small_length-room p, mul-le-mul a.ring_least (small_bits-least p a.range))

pub secret_length_halves : (p : Parameters) → secret_length p ≡ small_length p + small_length p
unfolding secret_length
secret_length_halves p = refl

-- Why what is drawn can be packed and evaluated: elements of the secret have b bits, and the terms lie inside the work words.
--
--   set_sizes            what the evaluation asks of n, qlen and the work words
--   small_packs          small elements can be packed
--   half_at              the elements of a half are those of its part of the work words;  half_ring: and below 16
--   half-packed          a half packed into its octets
--   terms_cleared        the words of the terms and a cleared element behind them
-- Assumes nothing.
use Prim.Native.Nat.{ℕ, ◌+◌, ◌-◌, ◌*◌, ◌^◌, ◌≤◌, ◌<◌}
use native.Mathlib.Omega.{arith}
use mathlib.Core.Path.{◌≡◌, ap, sym, ◌∙◌}
use mathlib.Core.Bool.{true}
use mathlib.Core.List.{List, ◌++◌}
use lib.ListN.{length, get_or, take, replicate}
use lib.Seq.{slice}
use borrow.Rule.Slice.PartMut.{mid_of, put_mid, same_len_mid, mid_len}
use Rattle.definitions.specs.Parameters.{Parameters, small_bits, qlen, monomial_count, small_length}
use Rattle.definitions.specs.Ring.{element_of, InRing}
use Rattle.definitions.specs.Octets.{coefficients_fit, packed}
use Rattle.definitions.specs.Demand3.{InSmallRing}
use Rattle.definitions.proofs.Parameters.{Accepted, range_most, modulus_positive, modulus_word, qlen-least, qlen-most}
use Rattle.definitions.proofs.Parameters.{small_bits-power, small_bits-least, small_bits-most}
use Rattle.definitions.proofs.Octets.{coefficients_fit_true}
use Rattle.definitions.proofs.Monomials.{count-suc}
use Rattle.ring.specs.Work.{part}
use Rattle.decoding.specs.Elements.{Sizes}
use Rattle.key_draws.specs.Keys.{Follows, terms_end, words_terms}
use Rattle.key_draws.proofs.Parts.{borrowed_slice, put_zeros, put_follows, follows_kept, slice_kept, slice_at}

module _ (p : Parameters) (a : Accepted p) where
  pub set_sizes : (work : List ℕ) → length work ≡ 8 * p.n → Sizes p.n (qlen p.q) work
  set_sizes work e =
      record {
        places = omega (arith, a.ring_least);
        most = a.ring_most;
        octets-least = qlen-least p.q (modulus_positive p a) (modulus_word p a);
        octets-most = qlen-most p.q;
        room = e;
      }

  pub small_packs : (words : List ℕ) {b : ℕ} {lent : List ℕ} → b ≡ small_bits p.l → lent ≡ words → InSmallRing p words
      → (1 ≤ b) × (b ≤ 4) × (coefficients_fit (2 ^ b) lent ≡ true)
  small_packs words e same small =
      rw (e, same) (
        small_bits-least p a.range,
        small_bits-most p a.range,
        coefficients_fit_true _ words (λ k l. omega (arith, small_bits-power p a.range, small.below k (rw small.sized at l))),
      )

  -- a half of work words whose first two parts are as they were
  module _ (at stop : ℕ) (old work : List ℕ) (e : stop ≡ at + p.n) (room : stop ≤ p.n + p.n) (kept : take (p.n + p.n) work ≡ take (p.n + p.n) old)
    where
      pub half_at : (k : ℕ) → k < p.n → part work at k ≡ element_of (slice at stop old) k
      half_at k l =
          sym (slice_at at stop work k (omega arith)) ∙ ap (λ (w : List ℕ). get_or w k 0) (slice_kept at stop (p.n + p.n) old work room kept)

      pub half_ring : InSmallRing p (slice at stop old) → InRing 16 p.n (part work at)
      half_ring small k l = rw (half_at k l) (omega (arith, small.below k l, range_most p a.range))

-- the work words with the constant's cleared, and what of them is lent to be encoded
pub record TermsLent (p : Parameters) (work given lent : List ℕ) : Type 0 where
  pub as_long : length given ≡ length work
  pub kept : take (p.n + p.n) given ≡ take (p.n + p.n) work
  pub words : lent ≡ words_terms p work ++ replicate p.n 0
  pub many : length lent ≡ monomial_count p.dx * p.n

pub terms_cleared : (p : Parameters) (work zeros : List ℕ) {stop : ℕ} → stop ≡ terms_end p → stop + p.n ≤ length work
    → length zeros ≡ length (mid_of stop (stop + p.n - stop) work) → zeros ≡ replicate (length (mid_of stop (stop + p.n - stop) work)) 0
    → (let given = put_mid stop (stop + p.n - stop) work zeros in TermsLent p work given (mid_of (p.n + p.n) (stop + p.n - (p.n + p.n)) given))
terms_cleared p work zeros {stop} e room same z =
    let given : List ℕ = put_mid stop (stop + p.n - stop) work zeros in
    let left : stop + p.n - stop ≡ p.n = omega arith in
    let f : Follows stop (stop + p.n) zeros work given = put_follows stop (stop + p.n) work (omega arith) room zeros same in
    let long : length given ≡ length work = same_len_mid stop (stop + p.n - stop) work zeros same in
    record {
      as_long = long;
      kept = slice_kept 0 (p.n + p.n) stop work given (omega arith) (follows_kept stop (stop + p.n) zeros work given (omega arith) f (omega arith));
      words =
          rw (← e) (put_zeros (p.n + p.n) stop p.n work zeros (omega arith) room same
          (z ∙ ap (λ (m : ℕ). replicate m 0) (mid_len stop (stop + p.n) work room ∙ left)));
      many = mid_len (p.n + p.n) (stop + p.n) given (omega arith) ∙ omega (arith, ap (λ (x : ℕ). x * p.n) (count-suc p.dx));
    }

-- a half packed into the octets from a place on
pub half-packed : (p : Parameters) (work secret last : List ℕ) (at to : ℕ) {b one : ℕ} → b ≡ small_bits p.l → one ≡ small_length p
    → at + p.n ≤ length work → to + one ≤ length secret → length last ≡ length (mid_of to (to + one - to) secret)
    → last ≡ packed b (length (mid_of to (to + one - to) secret)) (mid_of at (at + p.n - at) work)
    → Follows to (to + small_length p) (packed (small_bits p.l) (small_length p) (slice at (at + p.n) work)) secret (put_mid to (to + one - to) secret last)
half-packed p work secret last at to {one = one} eb eo words room same made =
    let left : to + one - to ≡ one = omega arith in
    let octets : length (mid_of to (to + one - to) secret) ≡ one = mid_len to (to + one) secret room ∙ left in
    rw (← eb, ← eo, ← borrowed_slice at (at + p.n) work (omega arith) words, ← (rw octets at made))
    (put_follows to (to + one) secret (omega arith) room last same)

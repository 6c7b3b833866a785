-- Why looking at the places from mlen / b on tells whether the tail is zero, and packing the n words gives the message.
--
--   tail-every       the places past mlen bits are those from mlen / b on
--   reduced-..       the third part after it was taken modulo ℓ: its coefficients, their bound, and the tail test
--   message-..       what each return of `write_message` leaves
-- Assumes nothing.
use Prim.Native.Nat.{ℕ, suc, ◌+◌, ◌-◌, ◌*◌, ◌/◌, ◌^◌, ◌≤◌, ◌<◌}
use mathlib.Core.Path.{◌≡◌, refl, sym, ap, ◌∙◌, subst}
use mathlib.Core.Bool.{Bool, true, false, not, ◌||◌}
use mathlib.Core.List.{List, []}
use native.Mathlib.Nat.{mul-le-mul_right, mod-lt}
use native.Mathlib.Decide.{dec_lt}
use native.Mathlib.Omega.{arith}
use borrow.Author.Tests.{lt-ltb, le-ltb}
use lib.Dec.{eqb, ltb}
use lib.ListN.{length, get_or, take, drop}
use Rattle.definitions.specs.Sequences.{every, tabulate}
use Rattle.definitions.specs.Parameters.{Parameters, small_bits, message_length, work_length}
use Rattle.definitions.specs.Ring.{Element, modulo}
use Rattle.definitions.specs.Octets.{coefficients_fit, packed}
use Rattle.definitions.specs.Calls.{tail_clear, message_of}
use Rattle.definitions.proofs.Sums.{every_true, every_at, every_cong, length-tabulate, get_or_tabulate}
use Rattle.definitions.proofs.Tests.{either_first, either_second}
use Rattle.definitions.proofs.Refusals.{first_refusal_applies, first_refusal_last}
use Rattle.definitions.proofs.Octets.{coefficients_fit_true}
use Rattle.definitions.proofs.Parameters.{Accepted, range_least, small_bits-least, small_bits-power, message_coefficients}
use Rattle.ring.specs.Work.{part, written}
use Rattle.ring.proofs.Work.{part-written, written-part}
use Rattle.decryption.specs.Decrypted.{MessageOf}

either_way : (a b : Bool) → (a ≡ true → b ≡ true) → (b ≡ true → a ≡ true) → a ≡ b
either_way true b f g = sym (f refl)
either_way false true f g = g refl
either_way false false f g = refl

-- t × b bits are the message's
tail-every : (n b t mlen : ℕ) (m : Element) → 1 ≤ b → t * b ≡ mlen
    → every (n - t) (λ j. eqb (m (t + j)) 0) ≡ every n (λ k. ltb (k * b) mlen || eqb (m k) 0)
tail-every n b t mlen m pos e =
    either_way _ _
    (λ h. every_true n (λ k l. all h k l))
    (λ h. every_true (n - t) (λ j l.
    let past : mlen ≤ (t + j) * b = let more : t * b ≤ (t + j) * b = mul-le-mul_right b (omega arith) in omega arith in
    let here : (ltb ((t + j) * b) mlen || eqb (m (t + j)) 0) ≡ true = every_at n (λ k. ltb (k * b) mlen || eqb (m k) 0) h (omega arith) in
    rw (le-ltb ((t + j) * b) mlen past) at here))
  where
    all : every (n - t) (λ j. eqb (m (t + j)) 0) ≡ true → (k : ℕ) → k < n → (ltb (k * b) mlen || eqb (m k) 0) ≡ true
    all h k l =
        elim (dec_lt k t) [
          | yes s ↦ let inside : suc k * b ≤ t * b = mul-le-mul_right b s in
              either_first (ltb (k * b) mlen) _ (lt-ltb (k * b) mlen (omega arith))
          | no g ↦ let place : t + (k - t) ≡ k = omega arith in
              either_second (ltb (k * b) mlen) _
              (subst (λ (i : ℕ). eqb (m i) 0 ≡ true) place (every_at (n - t) (λ j. eqb (m (t + j)) 0) h {k = k - t} (omega arith)))
        ]

module _ (p : Parameters) (set : Accepted p) (work : List ℕ) (room : length work ≡ work_length p) where
  abbrev pub at : ℕ
  at = 2 * p.n

  abbrev pub m : Element
  m = modulo p.l (part work at)

  inside : at + p.n ≤ length work
  unfolding work_length
  inside = omega (arith, room)

  module _ {b : ℕ} (e : b ≡ small_bits p.l) {new : List ℕ} (reduced : new ≡ written at (tabulate p.n m) work) where
    reduced_at : (k : ℕ) → k < p.n → part new at k ≡ m k
    reduced_at k l = ap (λ (w : List ℕ). part w at k) reduced ∙ part-written at p.n m work (omega (arith, inside)) l

    pub reduced_words : take (at + p.n - at) (drop at new) ≡ tabulate p.n m
    reduced_words =
        ap (λ (w : List ℕ). take (at + p.n - at) (drop at w)) reduced
        ∙ written-part at p.n m work (omega (arith, inside))

    pub reduced_fits : coefficients_fit (2 ^ b) (take (at + p.n - at) (drop at new)) ≡ true
    unfolding modulo
    reduced_fits =
        rw (reduced_words, e, ← small_bits-power p set.range)
        (coefficients_fit_true p.l (tabulate p.n m) (λ k l.
        let below : k < p.n = rw (length-tabulate p.n m) at l in
        rw (get_or_tabulate p.n m 0 below) (mod-lt (part work at k) {m = p.l} (omega (arith, range_least p set.range)))))

    pub reduced_tail : every (at + p.n - (at + p.mlen / b)) (λ k. eqb (part new (at + p.mlen / b) k) 0) ≡ tail_clear p m
    unfolding tail_clear
    reduced_tail =
        let t : ℕ = p.mlen / b in
        let left : at + p.n - (at + t) ≡ p.n - t = omega arith in
        let bits : t * small_bits p.l ≡ p.mlen = rw e (message_coefficients p set) in
        ap (λ (c : ℕ). every c (λ k. eqb (part new (at + t) k) 0)) left
        ∙ every_cong (p.n - t) (λ k l.
        let place : at + t + k ≡ at + (t + k) = omega arith in
        ap (λ (x : ℕ). eqb x 0) (ap (λ (i : ℕ). get_or new i 0) place ∙ reduced_at (t + k) (omega arith)))
        ∙ tail-every p.n (small_bits p.l) t p.mlen m (small_bits-least p set.range) bits

    module _ {clear : Bool} (told : clear ≡ every (at + p.n - (at + p.mlen / b)) (λ k. eqb (part new (at + p.mlen / b) k) 0)) where
      pub message-tail : (old : List ℕ) → clear ≡ false → MessageOf p m 10 old old
      message-tail old z =
          record {
            number = sym (first_refusal_applies 10 (not (tail_clear p m)) [] (ap not (sym reduced_tail ∙ sym told ∙ z)));
            written = λ n. let never : ⊥ = omega arith in absurd never;
            kept = λ _. refl;
          }

      pub message-written : (old : List ℕ) {message : List ℕ} → clear ≡ true → length old ≡ message_length p
          → message ≡ packed b (length old) (take (at + p.n - at) (drop at new)) → MessageOf p m 0 old message
      unfolding message_of
      message-written old h exact packs =
          record {
            number = sym (first_refusal_last 10 (not (tail_clear p m)) (ap not (sym reduced_tail ∙ sym told ∙ h)));
            written = λ _. packs ∙ rw (reduced_words, exact, e);
            kept = λ n. absurd (n refl);
          }

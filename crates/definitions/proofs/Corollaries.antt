-- Why the corollaries hold: a fresh ciphertext has count 1 and B is below q; packing loses no coefficient below ℓ; a made key's secret is a zero.
-- Assumes nothing.
use Prim.Native.Nat.{ℕ, ◌+◌, ◌*◌, ◌/◌, ◌%◌, ◌<◌}
use mathlib.Core.Path.{◌≡◌, refl, ap, ◌∙◌}
use mathlib.Core.Bool.{true}
use mathlib.Core.List.{List}
use native.Mathlib.Nat.{mod-eq_of_lt, mod-lt, zero-mod, mul-le-mul_right, lt_of_le_of_lt, one-mul}
use native.Mathlib.Omega.{arith}
use native.Mathlib.Decide.{dec_lt}
use borrow.Author.Tests.{eq-eqb}
use lib.ListN.{length, get_or, get_or-eq_default}
use Rattle.definitions.specs.Sequences.{tabulate}
use Rattle.definitions.specs.Refusals.{accepted}
use Rattle.definitions.specs.Parameters.{Parameters, small_bits, bound, message_length, work_length}
use Rattle.definitions.specs.Ring.{Element, modulo, InRing}
use Rattle.definitions.specs.Octets.{unpacked, padding_clear}
use Rattle.definitions.specs.Calls.{small_of, message_of, decrypt_answer}
use Rattle.definitions.specs.Demand3.{ZeroPastMessage, DecryptsTo}
use Rattle.definitions.specs.Corollaries.{AllOctets, Fresh, Headroom, SumsRead, Totals, OwnSecret}
use Rattle.definitions.proofs.Sums.{length-tabulate, get_or_tabulate, tabulate-get_or}
use Rattle.definitions.proofs.Parameters.{Accepted, accepted-set, modulus_positive, bound_positive, small_bits-least, small_bits-power, range_least, headroom-fits, headroom-largest, message_coefficients}
use Rattle.definitions.proofs.Packing.{ZeroFrom, length-unpacked, packed-unpacked, unpacked-packed_zero_from}
use Rattle.definitions.proofs.Small.{small_of-below}
use Rattle.definitions.proofs.Calls.{encrypt-told, keygen-told}
use Rattle.definitions.proofs.Decryption.{message_of_cong}
use Rattle.definitions.proofs.MadeKeys.{made_keys}
use Rattle.definitions.proofs.Kept.{kept-holds, kept-encrypted}
use Rattle.definitions.proofs.Ledger.{ledger-holds}

-- DecryptsTo with every buffer of its exact length, where nothing is reduced
decrypts-exact : (p : Parameters) (secret c : List ℕ) (places : Element) → InRing p.l p.n places → DecryptsTo p secret c places
    → decrypt_answer p secret c (message_length p) (work_length p) ≡ accepted (message_of p places)
unfolding modulo
decrypts-exact p secret c places small to =
    to (message_length p) (work_length p)
    ∙ rw (eq-eqb (message_length p) (message_length p) refl, eq-eqb (work_length p) (work_length p) refl)
    (ap accepted (message_of_cong p (λ k l. mod-eq_of_lt (small k l))))

module _ (p : Parameters) (a : Accepted p) where
  -- a message's octets are those of its element
  message_of-small_of : (message : List ℕ) → AllOctets message → length message ≡ message_length p → padding_clear p.mlen message ≡ true
      → message_of p (small_of p message) ≡ message
  unfolding message_of small_of
  message_of-small_of message octets exact padded =
      let same : tabulate p.n (λ k. get_or (unpacked (small_bits p.l) p.n message) k 0) ≡ unpacked (small_bits p.l) p.n message
      = rw (length-unpacked (small_bits p.l) p.n message) at (tabulate-get_or (unpacked (small_bits p.l) p.n message) 0) in
      rw (same, ← exact) (packed-unpacked (small_bits p.l) p.n p.mlen message (small_bits-least p a.range) a.message-most octets padded)

  module _ (places : Element) (small : InRing p.l p.n places) (tail : ZeroPastMessage p places) where
    zeros : ZeroFrom (p.mlen / small_bits p.l) (tabulate p.n places)
    zeros k past =
        elim (dec_lt k p.n) [
          | yes l ↦ get_or_tabulate p.n places 0 l ∙ tail k (rw (message_coefficients p a) at (mul-le-mul_right (small_bits p.l) past))
          | no l ↦ get_or-eq_default (tabulate p.n places) 0 (omega (arith, length-tabulate p.n places))
        ]

    -- an element's coefficients are those of its message
    small_of-message_of : (k : ℕ) → k < p.n → small_of p (message_of p places) k ≡ places k
    unfolding small_of message_of message_length
    small_of-message_of k l =
        ap (λ (xs : List ℕ). get_or xs k 0)
        (unpacked-packed_zero_from (small_bits p.l) p.n ((p.mlen + 7) / 8) (tabulate p.n places) (small_bits-least p a.range) (length-tabulate p.n places)
        (p.mlen / small_bits p.l) zeros (omega (arith, message_coefficients p a))
        (λ i s. let inside : i < p.n = rw (length-tabulate p.n places) at s in
        rw (get_or_tabulate p.n places 0 inside) (omega (arith, small i inside, small_bits-power p a.range))))
        ∙ get_or_tabulate p.n places 0 l

pub fresh : Fresh
fresh p public message random ciphertext_len work_len e octets given secret zero =
    let told = encrypt-told p public message random ciphertext_len work_len e given in
    let a : Accepted p = accepted-set p told.set in
    let holds = kept-holds p public e.ciphertext _ (kept-encrypted p a public message random e told) in
    let room : 1 * bound p < p.q = rw (one-mul (bound p)) a.modulus_above in
    decrypts-exact p secret e.ciphertext (small_of p message) (small_of-below p a message) (holds.decrypts room secret zero)
    ∙ ap accepted (message_of-small_of p a message octets told.message-exact told.padded)

pub headroom_suffices : Headroom
headroom_suffices p set s =
    let a : Accepted p = accepted-set p set in
    (λ l. lt_of_le_of_lt (mul-le-mul_right (bound p) l) (headroom-fits p (modulus_positive p a)), headroom-largest p s (bound_positive p a.range))

pub sums_read : SumsRead
unfolding modulo
sums_read p set public ciphertext entry holds k l =
    let a : Accepted p = accepted-set p set in
    let pos : 0 < p.l = omega (arith, range_least p a.range) in
    small_of-message_of p a (modulo p.l entry.places) (λ i s. mod-lt (entry.places i) pos)
    (λ i past. ap (λ (x : ℕ). x % p.l) (holds.tail i past) ∙ zero-mod p.l) k l

pub totals : Totals
totals p set public ciphertext entry holds room small secret zero =
    record {
      decrypted = decrypts-exact p secret ciphertext entry.places small (holds.decrypts room secret zero);
      totals = small_of-message_of p (accepted-set p set) entry.places small holds.tail;
    }

pub own_secret : OwnSecret
own_secret p random secret_len public_len work_len keys given calls legal i l room =
    let told = keygen-told p random secret_len public_len work_len keys given in
    ((ledger-holds p told.set keys.public calls legal).1 i l).decrypts room keys.secret (made_keys p random secret_len public_len work_len keys given)

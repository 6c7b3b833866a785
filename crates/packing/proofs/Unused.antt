-- Why it is enough to look at whole octets: an octet's bits from bit s on are zero just where the octet divided by 2^s is.
--
--   ClearTo          the octets before a place have no bit set from bit `used` on
--   clear_to_step       one octet more
--   padding_number-.. what the test of the unused bits answers;  -passed, -refused: and what its answer says;  padding_ok: of an outcome
-- Assumes nothing.
use Prim.Native.Nat.{ℕ, ◌+◌, ◌-◌, ◌*◌, ◌/◌, ◌%◌, ◌^◌, ◌≤◌, ◌<◌}
use mathlib.Core.Path.{◌≡◌, refl, sym, ap, ◌∙◌}
use mathlib.Core.Bool.{Bool, true, false, not}
use mathlib.Core.List.{List, [], ◌∷◌}
use native.Mathlib.Nat.{zero-div, mul-zero}
use native.Mathlib.Decide.{dec_lt}
use native.Mathlib.Omega.{arith}
use borrow.Author.Tests.{not-false}
use lib.Dec.{lit<, eqb}
use lib.Pow.{shr-shr, shr_lt}
use lib.ListN.{length, get_or}
use Rattle.definitions.specs.Refusals.{refuse, first_refusal}
use Rattle.definitions.specs.Octets.{bit_at, padding_clear}
use Rattle.definitions.proofs.Refusals.{first_refusal_passed, first_refusal_last, first_refusal-zero}
use Rattle.definitions.proofs.Sums.{sum-zero}
use Rattle.definitions.proofs.Packing.{binary_bits, bit_at_digit, padding_clear_at, padding_clear_true}
use Rattle.std.specs.Prelude.{Result}
use Rattle.std.specs.Result.{is_ok}
use Rattle.parameters.specs.declared.refusals.Refusal.{Refusal}
use Rattle.parameters.specs.Refusals.{number_in}
use Rattle.parameters.proofs.Answers.{ok-number}
use Rattle.packing.specs.Fields.{padding_number}

clear_bit : (x s j : ℕ) → s ≤ j → x / 2 ^ s ≡ 0 → x / 2 ^ j % 2 ≡ 0
clear_bit x s j l e =
    let split : j ≡ s + (j - s) = omega arith in
    rw (split, ← shr-shr x s (j - s), e, zero-div (2 ^ (j - s)))

clear_octet : (x s : ℕ) → s ≤ 8 → x < 256 → ((j : ℕ) → j < 8 - s → x / 2 ^ (s + j) % 2 ≡ 0) → x / 2 ^ s ≡ 0
clear_octet x s l h clear =
    let whole : 8 - s + s ≡ 8 = omega arith in
    let top : x < 2 ^ (8 - s + s) = rw whole h in
    sym (binary_bits (8 - s) (x / 2 ^ s) (shr_lt (8 - s) s top))
    ∙ sum-zero (8 - s) (λ j t. ap (λ (y : ℕ). 2 ^ j * y) (ap (λ (y : ℕ). y % 2) (shr-shr x s j) ∙ clear j t) ∙ mul-zero (2 ^ j))

module _ (used : ℕ) (octets : List ℕ) where
  abbrev pub ClearTo : ℕ → Type 0
  ClearTo i = (k : ℕ) → used / 8 ≤ k → k < i → get_or octets k 0 / 2 ^ (used - 8 * k) ≡ 0

  pub clear_to_step : (i : ℕ) → ClearTo i → get_or octets i 0 / 2 ^ (used - 8 * i) ≡ 0 → ClearTo (i + 1)
  clear_to_step i h e k from l =
      elim (dec_lt k i) [
        | yes s ↦ h k from s
        | no g ↦ let here : k ≡ i = omega arith in rw here e
      ]

  pub padding_number_clear : (i : ℕ) → ClearTo i → length octets ≤ i → padding_number used octets ≡ 0
  unfolding padding_number first_refusal
  padding_number_clear i h end =
      rw (padding_clear_true used octets (λ m from l. unfold bit_at in
      clear_bit (get_or octets (m / 8) 0) (used - 8 * (m / 8)) (m % 8) (omega arith) (h (m / 8) (omega arith) (omega arith))))

  pub padding_number-set : (i : ℕ) → used / 8 ≤ i → i < length octets → get_or octets i 0 < 256
      → (get_or octets i 0 / 2 ^ (used - 8 * i) ≡ 0 → ⊥) → padding_number used octets ≡ 7
  unfolding padding_number first_refusal
  padding_number-set i from l octet set = rw (go (padding_clear used octets) refl)
    where
      go : (t : Bool) → padding_clear used octets ≡ t → padding_clear used octets ≡ false
      go false e = e
      go true e =
          absurd (set (clear_octet (get_or octets i 0) (used - 8 * i) (omega arith) octet
          (λ j s. let inside : used - 8 * i + j < 8 = omega arith in
          sym (bit_at_digit 8 octets i inside) ∙ padding_clear_at used octets (i * 8 + (used - 8 * i + j)) e (omega arith))))

  pub padding_number_passed : padding_number used octets ≡ 0 → padding_clear used octets ≡ true
  unfolding padding_number
  padding_number_passed e = not-false _ (first_refusal_passed 7 _ [] (lit< tt) e).0

  pub padding_number-refused : (padding_number used octets ≡ 0 → ⊥) → padding_clear used octets ≡ false
  unfolding padding_number
  padding_number-refused e = go (padding_clear used octets) e
    where
      go : (t : Bool) → (first_refusal (refuse 7 (not t) ∷ []) ≡ 0 → ⊥) → t ≡ false
      go true e = absurd (e (first_refusal_last 7 false refl))
      go false e = refl

  -- an outcome with its number is Ok just where they are zero
  pub padding_ok : {A : Type 0} (outcome : Result A Refusal) → number_in outcome ≡ padding_number used octets → is_ok outcome ≡ padding_clear used octets
  unfolding padding_number
  padding_ok outcome e =
      ok-number outcome ∙ ap (λ (n : ℕ). eqb n 0) e ∙ first_refusal-zero 6 (padding_clear used octets)

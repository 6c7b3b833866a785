-- Why converting one element after another converts all of them: each part that is filled stands behind those before it.
--
--   Filled, filled_..    a list of which the first parts are right: the start of a loop that fills them, and a turn
--   part_room, part-given, part-fits   a part lies inside its list; what a turn makes of one; its words fit where all do
--   exact-told, exact_swapped, test_refused, small_..   what the tests tell;  leaves_..: what each return leaves
--   padding_..           what the number of an element's unused bits tells of all elements' up to it
--   octets-bounds, times_fits, small_length-most   the octets of a coefficient are 1 to 4, and no product wraps
-- Assumes nothing.
use Prim.Native.Nat.{ℕ, suc, ◌+◌, ◌-◌, ◌*◌, ◌^◌, ◌≤◌, ◌<◌}
use mathlib.Core.Path.{◌≡◌, refl, sym, ap, ◌∙◌}
use mathlib.Core.Bool.{Bool, true, false, not, ◌&&◌, and_comm}
use mathlib.Core.List.{List, [], ◌∷◌, ◌++◌, append_assoc}
use native.Mathlib.Nat.{zero-mul, add-sub_cancel_left, le_of_eq, mul-le-mul}
use native.Mathlib.Numerals.{add-one}
use native.Mathlib.Omega.{arith}
use lib.Dec.{eqb, lit<}
use lib.ListN.{length, take, drop, length-append, length-drop}
use lib.Seq.{take_at, length-take-le}
use borrow.Author.Tests.{eqb-true, not-false}
use borrow.Rule.Slice.PartMut.{put_mid}
use Rattle.definitions.specs.Sequences.{every, tabulate, joined}
use Rattle.definitions.specs.Refusals.{refuse, first_refusal, refused, accepted, answer}
use Rattle.definitions.specs.Parameters.{Parameters, small_bits, qlen, small_length}
use Rattle.definitions.specs.Octets.{coefficients_fit, padding_clear}
use Rattle.definitions.specs.Calls.{length_tests}
use Rattle.definitions.specs.Conversions.{ConversionExit, conversion_leaves, chunk}
use Rattle.definitions.specs.Demand3.{AcceptedSet}
use Rattle.definitions.proofs.Tests.{both_true}
use Rattle.definitions.proofs.Refusals.{first_refusal_applies, first_refusal_passed}
use Rattle.definitions.proofs.Exits.{exit_refused, exit_accepted}
use Rattle.definitions.proofs.Sums.{every_false}
use Rattle.definitions.proofs.Filling.{length_borrowed}
use Rattle.definitions.proofs.Octets.{below-take, below-drop, coefficients_fit-below, coefficients_fit_true, place_end}
use Rattle.definitions.proofs.Parameters.{accepted-set, small_bits-power, qlen-least, qlen-most, modulus_positive, modulus_word}
use Rattle.definitions.proofs.RoundTrips.{joined_snoc}
use Rattle.parameters.proofs.Bounds.{small_bits-within}
use Rattle.judging.specs.Reading.{fit_number}
use Rattle.judging.proofs.Judged.{fit_number-fits}
use Rattle.packing.specs.Fields.{padding_number}

-- ---- a list filled part by part

pub record Filled (size count : ℕ) (f : ℕ → List ℕ) (i : ℕ) (l : List ℕ) : Type 0 where
  pub exact : length l ≡ count * size
  pub written : take (i * size) l ≡ joined (tabulate i f)

pub part_room : (i k : ℕ) {size count total : ℕ} → k ≡ size → i < count → total ≡ count * size → i * k + k ≤ total
part_room i k e l exact = place_end i k l (le_of_eq (rw e (sym exact)))

module _ {size count : ℕ} {f : ℕ → List ℕ} where
  pub filled_none : {l : List ℕ} → length l ≡ count * size → Filled size count f 0 l
  unfolding tabulate joined
  filled_none e = record { exact = e; written = rw (zero-mul size) }

  -- a part that is lent and given back as the next one
  pub filled_step : {i : ℕ} {l new : List ℕ} → i < count → length (f i) ≡ size → new ≡ f i → Filled size count f i l
      → Filled size count f (i + 1) (put_mid (i * size) (i * size + size - i * size) l new)
  filled_step {i} {l} {new} inside sized value before =
      let room = part_room i size refl inside before.exact in
      let front : length (take (i * size) l ++ new) ≡ i * size + size
      = omega (arith, length-append (take (i * size) l) new, length-take-le (i * size) l (omega arith), ap length value, sized) in
      let rest : List ℕ = drop size (drop (i * size) l) in
      let next : (i + 1) * size ≡ i * size + size = omega arith in
      rw (add-sub_cancel_left (i * size) size, ← append_assoc (take (i * size) l) new rest)
      (record {
        exact =
            omega (
              arith,
              length-append (take (i * size) l ++ new) rest,
              length-drop size (drop (i * size) l),
              length-drop (i * size) l,
              before.exact,
            );
        written =
            rw (next, take_at (take (i * size) l ++ new) rest (i * size + size) front, before.written, value, add-one i, joined_snoc i f);
      })

-- what is made of the i-th part of a list, for the i-th part of another
pub part-given : (make : ℕ → ℕ → List ℕ → List ℕ) (b i k m : ℕ) (source dest : List ℕ) → i * m + m ≤ length dest
    → make b (length (take (i * m + m - i * m) (drop (i * m) dest))) (take (i * k + k - i * k) (drop (i * k) source)) ≡ make b m (chunk k source i)
part-given make b i k m source dest room = rw (length_borrowed (i * m) m dest room, add-sub_cancel_left (i * k) k)

pub part-fits : (q i n : ℕ) (words : List ℕ) → coefficients_fit q words ≡ true → coefficients_fit q (take (i * n + n - i * n) (drop (i * n) words)) ≡ true
part-fits q i n words e = coefficients_fit_true q _ (below-take q (i * n + n - i * n) _ (below-drop q (i * n) words (coefficients_fit-below q words e)))

-- ---- what the tests tell, and what each return leaves

pub exact-told : (a A b B : ℕ) → (eqb a A && eqb b B) ≡ true → (a ≡ A) × (b ≡ B)
exact-told a A b B e = let both = both_true (eqb a A) (eqb b B) e in (eqb-true a A both.0, eqb-true b B both.1)

pub exact_swapped : (a A b B : ℕ) {r : Bool} → r ≡ (eqb a A && eqb b B) → (eqb b B && eqb a A) ≡ r
exact_swapped a A b B e = and_comm (eqb b B) (eqb a A) ∙ sym e

-- the number of one test that refuses
pub test_refused : (k : ℕ) (fit : Bool) {r : ℕ} → r ≡ first_refusal (refuse k (not fit) ∷ []) → (r ≡ 0 → ⊥) → (r ≡ k) × (fit ≡ false)
unfolding first_refusal
test_refused k true e z = absurd (z e)
test_refused k false e z = (e, refl)

-- small words, judged by the bits of a coefficient
module _ (p : Parameters) (set : AcceptedSet p) (words : List ℕ) {b r : ℕ} (bits : b ≡ small_bits p.l) (number : r ≡ fit_number (2 ^ b) words) where
  power : 2 ^ b ≡ p.l
  power = ap (λ (b : ℕ). 2 ^ b) bits ∙ sym (small_bits-power p (accepted-set p set).range)

  pub small_number : r ≡ fit_number p.l words
  small_number = rw power at number

  pub small_fits : r ≡ 0 → coefficients_fit (2 ^ small_bits p.l) words ≡ true
  small_fits z = let fits : coefficients_fit (2 ^ b) words ≡ true = fit_number-fits (2 ^ b) words (sym number ∙ z) in rw bits at fits

module _ (p : Parameters) (set : AcceptedSet p) (exact fit : Bool) (k : ℕ) (value old : List ℕ) where
  abbrev leaves : ConversionExit
  leaves = conversion_leaves (answer (length_tests p exact) (refuse (suc k) (not fit) ∷ []) value) old

  module _ (e : exact ≡ true) {r : ℕ} (number : r ≡ first_refusal (refuse (suc k) (not fit) ∷ [])) where
    pub leaves_refused : (r ≡ 0 → ⊥) → conversion_leaves (refused r) old ≡ leaves
    leaves_refused z =
        let told = test_refused (suc k) fit number z in
        rw told.0 (exit_refused (λ x. conversion_leaves x old) p exact _ value set e k (first_refusal_applies (suc k) (not fit) [] (rw told.1)))

    pub leaves_accepted : {out : List ℕ} → r ≡ 0 → out ≡ value → conversion_leaves (accepted out) old ≡ leaves
    leaves_accepted z v = rw v (exit_accepted (λ x. conversion_leaves x old) p exact _ value set e (sym number ∙ z))

-- ---- unused bits

module _ (used len : ℕ) (octets : List ℕ) (i : ℕ) {r : ℕ} (number : r ≡ padding_number used (take (i * len + len - i * len) (drop (i * len) octets))) where
  abbrev clear : ℕ → Bool
  clear j = padding_clear used (chunk len octets j)

  here : r ≡ first_refusal (refuse 7 (not (clear i)) ∷ [])
  unfolding padding_number
  here = rw (add-sub_cancel_left (i * len) len) at number

  pub padding_refused : {elements : ℕ} → i < elements → (r ≡ 0 → ⊥) → r ≡ first_refusal (refuse 7 (not (every elements clear)) ∷ [])
  unfolding first_refusal
  padding_refused {elements} l z = let told = test_refused 7 (clear i) here z in rw (told.0, every_false elements clear l told.1)

  pub padding_passed : r ≡ 0 → every i clear ≡ true → every (i + 1) clear ≡ true
  unfolding every
  padding_passed z e =
      let passes : clear i ≡ true = not-false _ (first_refusal_passed 7 (not (clear i)) [] (lit< tt) (sym here ∙ z)).0 in
      rw (add-one i, e, passes)

-- ---- what a set gives

pub octets-bounds : (p : Parameters) → AcceptedSet p → (1 ≤ qlen p.q) × (qlen p.q ≤ 4)
octets-bounds p set =
    let a = accepted-set p set in
    (qlen-least p.q (modulus_positive p a) (modulus_word p a), qlen-most p.q)

pub times_fits : {n k : ℕ} → n ≤ 4294967295 → k ≤ 15 → k * n < 18446744073709551616
times_fits word h = omega (arith, mul-le-mul h word)

pub small_length-most : (p : Parameters) → p.n ≤ 4294967295 → small_length p ≤ 4294967295
unfolding small_length
small_length-most p word = omega (arith, mul-le-mul word (small_bits-within p.l).most)

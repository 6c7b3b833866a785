-- Why the judge's number tells whether a key's or a ciphertext's coefficients fit: octets of the exact length are the coefficients of its elements.
--
--   number-..         what the number tells of a test;  fit_number-..: of a list
--   judged            the judge's number of octets is that of the elements' coefficients
--   judged-fits       0 of octets: each is below q
--   judged-refused    any other number: some is not
-- Assumes nothing.
use Prim.Native.Nat.{ℕ, ◌/◌}
use mathlib.Core.Path.{◌≡◌, refl, sym, ap, ◌∙◌}
use mathlib.Core.Bool.{Bool, true, false}
use mathlib.Core.List.{List, []}
use borrow.Author.Tests.{not-false}
use lib.Dec.{eqb, lit<}
use lib.ListN.{length}
use Rattle.definitions.specs.Parameters.{Parameters, qlen, elements_length}
use Rattle.definitions.specs.Octets.{decoded, coefficients_fit}
use Rattle.definitions.specs.Calls.{decoded_elements, elements_fit}
use Rattle.definitions.proofs.Refusals.{first_refusal_passed, first_refusal_last, first_refusal-zero}
use Rattle.definitions.proofs.Parameters.{Accepted, elements_length-count}
use Rattle.judging.specs.Reading.{coefficient_number, fit_number}

pub number-zero : {fit : Bool} → fit ≡ true → 0 ≡ coefficient_number fit
number-zero e = sym (first_refusal_last 8 _ (rw e))

pub number_fits : (fit : Bool) → coefficient_number fit ≡ 0 → fit ≡ true
number_fits fit e = not-false _ (first_refusal_passed 8 _ [] (lit< tt) e).0

pub number-refused : (fit : Bool) → (coefficient_number fit ≡ 0 → ⊥) → fit ≡ false
number-refused true h = absurd (h (first_refusal_last 8 false refl))
number-refused false h = refl

pub number_same : (fit whole : Bool) {r : ℕ} → r ≡ coefficient_number fit → (r ≡ 0 → ⊥) → (fit ≡ false → whole ≡ false) → r ≡ coefficient_number whole
number_same fit whole e z h = let f : fit ≡ false = number-refused fit (λ n. z (e ∙ n)) in e ∙ ap coefficient_number (f ∙ sym (h f))

pub fit_number-fits : (q : ℕ) (xs : List ℕ) → fit_number q xs ≡ 0 → coefficients_fit q xs ≡ true
unfolding fit_number
fit_number-fits q xs = number_fits (coefficients_fit q xs)

pub fit_number-refused : (q : ℕ) (xs : List ℕ) → (fit_number q xs ≡ 0 → ⊥) → coefficients_fit q xs ≡ false
unfolding fit_number
fit_number-refused q xs = number-refused (coefficients_fit q xs)

-- the number, compared with 0, is whether each coefficient fits
pub fit_number_test : (q : ℕ) (xs : List ℕ) {r : ℕ} → r ≡ fit_number q xs → eqb r 0 ≡ coefficients_fit q xs
unfolding fit_number
fit_number_test q xs e = ap (λ (r : ℕ). eqb r 0) e ∙ first_refusal-zero 7 (coefficients_fit q xs)

module _ (p : Parameters) (set : Accepted p) (elements : ℕ) (octets : List ℕ)
    (exact : length octets ≡ elements_length p elements) {len r : ℕ} (e : len ≡ qlen p.q)
    (number : r ≡ fit_number p.q (decoded len (length octets / len) octets))
  where
    pub judged : r ≡ fit_number p.q (decoded_elements p elements octets)
    unfolding decoded_elements
    judged = rw (e, exact, elements_length-count p set elements) at number

    pub judged-fits : r ≡ 0 → elements_fit p elements octets ≡ true
    unfolding elements_fit
    judged-fits z = fit_number-fits p.q (decoded_elements p elements octets) (sym judged ∙ z)

    pub judged-refused : (r ≡ 0 → ⊥) → elements_fit p elements octets ≡ false
    unfolding elements_fit
    judged-refused z = fit_number-refused p.q (decoded_elements p elements octets) (λ e. z (judged ∙ e))

-- Why c holds a × b + c after the call of 02, Q-8: no test applies to three elements of R_q, and what is reduced modulo q is in R_q again.
--
--   multiply_add_rows_lem every row of the table
--   multiply_add_at, -below   its coefficient, and that it is below q;  multiply_add_cong: what it depends on
--   multiply_add_exact-told, fit_elements   what the length test tells, and both tests;  elements_fit_lem: and back
--   multiply_add-holds, -witness, multiply_add_cancels   the theorems
-- Assumes nothing.
use Prim.Native.Nat.{ℕ, ◌+◌, ◌-◌, ◌%◌, ◌<◌}
use native.Mathlib.Nat.{mod-lt, mod_self}
use native.Mathlib.Omega.{arith}
use mathlib.Core.Path.{◌≡◌, refl, ap, ap₂}
use mathlib.Core.Bool.{true}
use mathlib.Core.List.{List, [], ◌∷◌, map}
use lib.ListN.{length}
use borrow.Author.Tests.{eqb-true, eq-eqb}
use Rattle.definitions.specs.Sequences.{sum, every, tabulate}
use Rattle.definitions.specs.Refusals.{accepted, first_refusal, answer}
use Rattle.definitions.specs.Parameters.{Parameters, small_bits, term_sum, bound, range_fits, ring_fits, degree_fits, modulus_fits, message_fits, edition_fits, set_tests}
use Rattle.definitions.specs.Ring.{Element, element_of, ListInRing, conv, one, multiply_add}
use Rattle.definitions.specs.Octets.{coefficients_fit}
use Rattle.definitions.specs.Calls.{length_tests}
use Rattle.definitions.specs.Demand3.{AcceptedSet}
use Rattle.definitions.specs.WorkedCases.{Row}
use Rattle.definitions.specs.MultiplyAdd.{multiply_add_exact, words_fit, multiply_add_words, multiply_add_answer, multiply_add_leaves, multiply_add_exit}
use Rattle.definitions.specs.MultiplyAddHolds.{RingElements, MultipliedAndAdded, MultiplyAddHolds, MultiplyAddWitness, MultiplyAddCancels, multiply_add_rows}
use Rattle.definitions.proofs.Sums.{length-tabulate, get_or_tabulate}
use Rattle.definitions.proofs.Ring.{conv_cong, conv-one_right}
use Rattle.definitions.proofs.Parameters.{accepted-set, modulus_positive}
use Rattle.definitions.proofs.Tests.{both_true}
use Rattle.definitions.proofs.Refusals.{first_refusal_last}
use Rattle.definitions.proofs.Octets.{coefficients_fit_true, coefficients_fit-below}
use Rattle.definitions.proofs.Exits.{exit_accepted}

-- ---- the table

pub multiply_add_rows_lem : map (λ (r : Row). r.given) multiply_add_rows ≡ map (λ (r : Row). r.expected) multiply_add_rows
unfolding
    multiply_add_rows multiply_add_exit multiply_add_answer multiply_add_exact words_fit multiply_add conv sum every tabulate coefficients_fit first_refusal answer
    length_tests set_tests small_bits term_sum bound range_fits ring_fits degree_fits modulus_fits message_fits edition_fits
multiply_add_rows_lem = refl

-- ---- laws

pub multiply_add_at : (q n : ℕ) (a b c : Element) (k : ℕ) → multiply_add q n a b c k ≡ (conv n a b k + c k) % q
unfolding multiply_add
multiply_add_at q n a b c k = refl

pub multiply_add-below : (q n : ℕ) (a b c : Element) (k : ℕ) → 0 < q → multiply_add q n a b c k < q
unfolding multiply_add
multiply_add-below q n a b c k pos = mod-lt _ pos

pub multiply_add_cong : (q n : ℕ) (a b c : Element) {d e f : Element} → ((i : ℕ) → i < n → a i ≡ d i) → ((i : ℕ) → i < n → b i ≡ e i)
    → ((i : ℕ) → i < n → c i ≡ f i) → (k : ℕ) → k < n → multiply_add q n a b c k ≡ multiply_add q n d e f k
unfolding multiply_add
multiply_add_cong q n a b c x y z k l = ap (λ (s : ℕ). s % q) (ap₂ ◌+◌ (conv_cong n x y k) (z k l))

pub multiply_add_exact-told : (p : Parameters) {a b c : ℕ} → multiply_add_exact p a b c ≡ true → (a ≡ p.n) × (b ≡ p.n) × (c ≡ p.n)
unfolding multiply_add_exact
multiply_add_exact-told p e =
    let first = both_true _ _ e in
    let second = both_true _ _ first.1 in
    (eqb-true _ _ first.0, eqb-true _ _ second.0, eqb-true _ _ second.1)

-- what the length test and the test of the words leave
pub fit_elements : (p : Parameters) (a b c : List ℕ) → multiply_add_exact p (length a) (length b) (length c) ≡ true
    → words_fit p.q a b c ≡ true → RingElements p a b c
unfolding words_fit
fit_elements p a b c exact fit =
    let sizes = multiply_add_exact-told p exact in
    let first = both_true _ _ fit in
    let second = both_true _ _ first.1 in
    record {
      first = element sizes.0 first.0;
      second = element sizes.1 second.0;
      third = element sizes.2 second.1;
    }
  where
    element : {words : List ℕ} → length words ≡ p.n → coefficients_fit p.q words ≡ true → ListInRing p.q p.n words
    element {words} e f = record { sized = e; below = λ k l. coefficients_fit-below p.q words f k (rw e l) }

pub elements_fit_lem : {p : Parameters} {a b c : List ℕ} → RingElements p a b c → words_fit p.q a b c ≡ true
unfolding words_fit
elements_fit_lem {p} g = rw (fits g.first, fits g.second, fits g.third)
  where
    fits : {words : List ℕ} → ListInRing p.q p.n words → coefficients_fit p.q words ≡ true
    fits {words} e = coefficients_fit_true p.q words (λ i l. e.below i (rw e.sized at l))

-- ---- the theorems

module _ (p : Parameters) (set : AcceptedSet p) (a b c : List ℕ) (g : RingElements p a b c) where
  exact : multiply_add_exact p (length a) (length b) (length c) ≡ true
  unfolding multiply_add_exact
  exact = rw (eq-eqb _ _ g.first.sized, eq-eqb _ _ g.second.sized, eq-eqb _ _ g.third.sized)

  at : (k : ℕ) → k < p.n → element_of (multiply_add_words p a b c) k ≡ multiply_add p.q p.n (element_of a) (element_of b) (element_of c) k
  at k l = get_or_tabulate p.n (multiply_add p.q p.n (element_of a) (element_of b) (element_of c)) 0 l

  -- no test applies
  given : multiply_add_leaves (accepted (multiply_add_words p a b c)) a b c ≡ multiply_add_exit p a b c
  unfolding multiply_add_exit multiply_add_answer
  given =
      exit_accepted (λ r. multiply_add_leaves r a b c) p _ _ (multiply_add_words p a b c) set exact
      (first_refusal_last 8 _ (rw (elements_fit_lem g)))

  multiplied_and_added : MultipliedAndAdded p a b c (multiply_add_exit p a b c)
  multiplied_and_added =
      rw (← given) (record {
        accepted = refl;
        first-stays = refl;
        second-stays = refl;
        holds = at;
        in_ring = record {
          sized = length-tabulate p.n _;
          below = λ k l. rw (at k l) (multiply_add-below p.q p.n _ _ _ k (modulus_positive p (accepted-set p set)));
        };
      })

pub multiply_add-holds : MultiplyAddHolds
multiply_add-holds = multiplied_and_added

pub multiply_add_cancels : MultiplyAddCancels
unfolding multiply_add
multiply_add_cancels q n above k l =
    let product : conv n (λ i. 1) one k ≡ 1 = conv-one_right n (λ i. 1) l in
    let whole : 1 + (q - 1) ≡ q = omega arith in
    rw (product, whole) (mod_self q)

pub multiply_add_witness : MultiplyAddWitness
unfolding
    first_refusal set_tests sum small_bits term_sum bound range_fits ring_fits degree_fits modulus_fits message_fits edition_fits coefficients_fit every
multiply_add_witness =
    record {
      set = refl;
      elements =
          record {
            first = record { sized = refl; below = coefficients_fit-below 1459 (1 ∷ 2 ∷ []) refl };
            second = record { sized = refl; below = coefficients_fit-below 1459 (5 ∷ 7 ∷ []) refl };
            third = record { sized = refl; below = coefficients_fit-below 1459 (1458 ∷ 0 ∷ []) refl };
          };
    }

-- Why adding coefficient by coefficient adds two ciphertexts: the coefficient of t^k of element i stands at i × n + k in both.
--
--   SumTurn          a place, and how many octets a turn reads and writes from there on: turn_one, those of its coefficient; turn_four: four
--   AddedTo          octets of which those of the first m sums are written
--   added_to-..       the start of a loop that stores the octets of each sum, a turn, and the end
--   judge_passed, judge_refused   a judge's 0 tells that each coefficient of a ciphertext fits; any other number is 8, and some does not
--   exact_summands   ciphertexts of which both fit are summands;  ciphertext-count: their coefficients
--   coefficient_sums-octets_from   the sums' octets are those of the sum of the two polynomials
-- Assumes nothing.
use Prim.Native.Nat.{ℕ, ◌+◌, ◌*◌, ◌/◌, ◌%◌, ◌≤◌, ◌<◌}
use mathlib.Core.Path.{◌≡◌, sym, ap, ap₂, ◌∙◌}
use mathlib.Core.Bool.{true, false}
use mathlib.Core.List.{List}
use native.Mathlib.Nat.{le_refl, zero-mul}
use native.Mathlib.Omega.{arith}
use lib.ListN.{length, get_or, take}
use Rattle.definitions.specs.Sequences.{joined}
use Rattle.definitions.specs.Refusals.{first_refusal}
use Rattle.definitions.specs.Parameters.{Parameters, degree, qlen, monomial_count, elements_length, ciphertext_length}
use Rattle.definitions.specs.Ring.{modulo, add}
use Rattle.definitions.specs.Monomials.{sum_of, coefficients_of}
use Rattle.definitions.specs.Octets.{coefficient_at, decoded, encoded}
use Rattle.definitions.specs.Calls.{decoded_elements, elements_fit, polynomial_from, octets_from, sum_modulo}
use Rattle.definitions.specs.Demand3.{AcceptedSet}
use Rattle.definitions.proofs.Sums.{length-tabulate, get_or_tabulate, tabulate_cong}
use Rattle.definitions.proofs.Parameters.{accepted-set, elements_length-count, modulus_positive, modulus_word, qlen-least, qlen-most}
use Rattle.definitions.proofs.Octets.{coefficients_fit_at, place_end, wide_room}
use Rattle.definitions.proofs.Elements.{polynomial_in_at}
use Rattle.encoding.proofs.Laws.{stored, encode_wide, encode_end}
use Rattle.judging.specs.Reading.{fit_number}
use Rattle.judging.proofs.Judged.{judged, judged-fits, judged-refused}
use Rattle.addition.specs.Sums.{Summands, coefficient_sums}

-- ---- a turn of a loop

pub record SumTurn (len count m wide : ℕ) : Type 0 where
  pub whole : len ≤ wide
  pub few : wide ≤ 4
  pub inside : m < count
  pub room : m * len + wide ≤ count * len

module _ {q len count : ℕ} {a b : List ℕ} (given : Summands q len count a b) (m : ℕ) where
  pub turn_one : m < count → SumTurn len count m len
  turn_one l = record { whole = le_refl len; few = given.most; inside = l; room = place_end m len l (le_refl _) }

  -- three coefficients more follow
  pub turn_four : m + 4 ≤ count → SumTurn len count m 4
  turn_four h =
      record { whole = given.most; few = le_refl 4; inside = omega arith; room = wide_room m len 4 h given.least (le_refl _) }

  -- the two coefficients of a place can be added
  pub sum_below : {x y : ℕ} → m < count → x ≡ coefficient_at len a m → y ≡ coefficient_at len b m → (x < q) × (y < q) × (q < 2147483648)
  sum_below l ex ey =
      (rw ex (coefficients_fit_at q len count a given.a-fits l), rw ey (coefficients_fit_at q len count b given.b-fits l), given.modulus)

module _ (q len count : ℕ) (a b : List ℕ) where
  sums_length : length (coefficient_sums q len count a b) ≡ count
  unfolding coefficient_sums
  sums_length = length-tabulate count _

  sums_at : {m : ℕ} → m < count → get_or (coefficient_sums q len count a b) m 0 ≡ (coefficient_at len a m + coefficient_at len b m) % q
  unfolding coefficient_sums
  sums_at l = get_or_tabulate count (λ m. (coefficient_at len a m + coefficient_at len b m) % q) 0 l

pub record AddedTo (q len count : ℕ) (a b : List ℕ) (m : ℕ) (sum : List ℕ) : Type 0 where
  pub exact : length sum ≡ count * len
  pub written : take (m * len) sum ≡ encoded len (take m (coefficient_sums q len count a b))

module _ {q len count : ℕ} {a b : List ℕ} where
  pub added_to_none : {sum : List ℕ} → length sum ≡ count * len → AddedTo q len count a b 0 sum
  unfolding encoded joined
  added_to_none e = record { exact = e; written = rw (zero-mul len) }

  pub added_to_step : {m wide x y s : ℕ} {sum r : List ℕ} → SumTurn len count m wide → AddedTo q len count a b m sum
      → x ≡ coefficient_at len a m → y ≡ coefficient_at len b m → s ≡ (x + y) % q → r ≡ stored (m * len) wide s sum → length r ≡ length sum
      → AddedTo q len count a b (m + 1) r
  added_to_step {m} {wide} {x} {y} {s} {sum} turn before ex ey es e kept =
      let sums : List ℕ = coefficient_sums q len count a b in
      let value : s ≡ get_or sums m 0 = es ∙ ap₂ (λ (u v : ℕ). (u + v) % q) ex ey ∙ sym (sums_at q len count a b turn.inside) in
      record {
        exact = kept ∙ before.exact;
        written =
            encode_wide m len wide sums sum (rw (sums_length q len count a b) turn.inside) turn.whole (rw before.exact turn.room)
            (rw (← value) e) before.written;
      }

  pub added_to_end : {sum : List ℕ} → AddedTo q len count a b count sum → sum ≡ encoded len (coefficient_sums q len count a b)
  added_to_end {sum} before =
      let sized = sums_length q len count a b in
      encode_end count len (coefficient_sums q len count a b) sum sized (rw sized before.exact) before.written

-- ---- ciphertexts

module _ (p : Parameters) (set : AcceptedSet p) (octets : List ℕ) (exact : length octets ≡ ciphertext_length p) {len r : ℕ} (e : len ≡ qlen p.q)
    (number : r ≡ fit_number p.q (decoded len (length octets / len) octets))
  where
    pub judge_passed : r ≡ 0 → elements_fit p (monomial_count (degree p)) octets ≡ true
    unfolding ciphertext_length
    judge_passed z = judged-fits p (accepted-set p set) _ octets exact e number z

    pub judge_refused : (r ≡ 0 → ⊥) → (r ≡ 8) × (elements_fit p (monomial_count (degree p)) octets ≡ false)
    unfolding ciphertext_length elements_fit fit_number first_refusal
    judge_refused z =
        let set = accepted-set p set in
        let count = monomial_count (degree p) in
        let unfit = judged-refused p set count octets exact e number z in
        (judged p set count octets exact e number ∙ rw unfit, unfit)

module _ (p : Parameters) (set : AcceptedSet p) where
  pub ciphertext-count : ciphertext_length p / qlen p.q ≡ monomial_count (degree p) * p.n
  unfolding ciphertext_length
  ciphertext-count = elements_length-count p (accepted-set p set) (monomial_count (degree p))

  pub qlen-bounds : (1 ≤ qlen p.q) × (qlen p.q ≤ 4)
  qlen-bounds =
      let accepted = accepted-set p set in
      (qlen-least p.q (modulus_positive p accepted) (modulus_word p accepted), qlen-most p.q)

  pub exact_summands : (a b : List ℕ) → length a ≡ ciphertext_length p → length b ≡ ciphertext_length p
      → elements_fit p (monomial_count (degree p)) a ≡ true → elements_fit p (monomial_count (degree p)) b ≡ true
      → Summands p.q (qlen p.q) (monomial_count (degree p) * p.n) a b
  unfolding ciphertext_length elements_length elements_fit decoded_elements
  exact_summands a b ea eb fa fb =
      record {
        least = qlen-bounds.0;
        most = qlen-bounds.1;
        modulus = omega (arith, (accepted-set p set).modulus-most);
        a-length = ea;
        b-length = eb;
        a-fits = fa;
        b-fits = fb;
      }

-- the octets of the sum of the two polynomials
pub coefficient_sums-octets_from : (p : Parameters) (d : ℕ) (a b : List ℕ)
    → encoded (qlen p.q) (coefficient_sums p.q (qlen p.q) (monomial_count d * p.n) a b)
    ≡ octets_from p d (sum_modulo p (polynomial_from p a) (polynomial_from p b))
unfolding octets_from coefficients_of coefficient_sums sum_modulo modulo sum_of add
coefficient_sums-octets_from p d a b =
    ap (encoded (qlen p.q))
    (tabulate_cong (monomial_count d * p.n) (λ m l.
    ap₂ (λ (x y : ℕ). (x + y) % p.q) (sym (polynomial_in_at p.n (qlen p.q) a m)) (sym (polynomial_in_at p.n (qlen p.q) b m))))

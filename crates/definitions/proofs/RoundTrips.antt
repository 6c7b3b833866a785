-- Why a conversion loses nothing: what is accepted one way is accepted back, and gives what was there, for every b and every qlen.
--
--   joined_snoc, length-joined, below-joined   lists of one length end to end: one more, how long they are, their numbers
--   chunk-joined, joined_chunks   such lists cut apart again, and a list cut into parts and joined again;  joined_back: changed there and back
--   from_to, to_from              so many ring elements, from octets to words and back, and from words to octets and back
--   packed_from_to, packed_to_from  the same for so many packed small elements
--   unpacked-secret               the words of an accepted secret key are u_x and u_y as the calls read them;
--                                 secret_bits_clear_each: and what is accepted is what the calls accept
--
-- The octets of a buffer are below 256: AllBelow 256. Assumes nothing.
use Prim.Native.Nat.{ℕ, zero, suc, ◌+◌, ◌*◌, ◌^◌, ◌≤◌, ◌<◌, suc-le-suc}
use mathlib.Core.Path.{◌≡◌, refl, sym, ap, ap₂, ◌∙◌}
use mathlib.Core.Bool.{Bool, true, not, ◌&&◌}
use mathlib.Core.List.{List, [], ◌∷◌, ◌++◌, append_assoc, append-nil}
use native.Mathlib.Nat.{zero-mul, suc-mul, add_comm, le_refl, le_of_eq, zero-lt-suc, not-suc-le-zero, le_of_suc-le-suc, mul-le-mul_right}
use native.Mathlib.Omega.{arith}
use lib.Dec.{eqb}
use lib.ListN.{length, get_or, take, drop, length-append, length-drop, take-append-drop, get_or-append}
use lib.Seq.{take_all, take_at, drop_at, drop-drop, length-take-le, get_or-append-add}
use borrow.Author.Tests.{eq-eqb, eqb-true, not-false}
use Rattle.definitions.specs.Sequences.{every, tabulate, joined}
use Rattle.definitions.specs.Refusals.{refuse, first_refusal, accepted, answer}
use Rattle.definitions.specs.Parameters.{Parameters, small_bits, qlen, small_length, secret_length, elements_length}
use Rattle.definitions.specs.Octets.{encoded, unpacked, packed, coefficients_fit, padding_clear}
use Rattle.definitions.specs.Calls.{small_of, secret_x, secret_y, secret_bits_clear, length_tests, elements_fit, decoded_elements}
use Rattle.definitions.specs.Conversions.{from_octets_answer, to_octets_answer, chunk, each_bits_clear, packed_from_answer, packed_to_answer}
use Rattle.definitions.specs.Demand3.{AcceptedSet}
use Rattle.definitions.proofs.Tests.{both_true}
use Rattle.definitions.proofs.Sums.{every_true, every_at, tabulate_cong}
use Rattle.definitions.proofs.Filling.{tabulate_snoc}
use Rattle.definitions.proofs.Refusals.{first_refusal_passed, first_refusal_last, answer-accepted_only}
use Rattle.definitions.proofs.Parameters.{accepted-set, small_bits-power, small_bits-least, small_length-room, secret_length_halves}
use Rattle.definitions.proofs.Octets.{AllBelow, below-nil, below-append, below-take, below-drop, length-decoded, length-encoded, encoded-decoded, coefficients_fit-below, coefficients_fit_true}
use Rattle.definitions.proofs.Packing.{length-unpacked, length-packed, unpacked-below, packed-unpacked, unpacked-packed, padding_clear-packed}
use Rattle.definitions.proofs.Elements.{decoded_elements-encoded, elements_fit-encoded}
use Rattle.definitions.proofs.Calls.{length_tests_passed, answer-exact}

-- ---- lists of one length, end to end

joined-append : (xs ys : List (List ℕ)) → joined (xs ++ ys) ≡ joined xs ++ joined ys
unfolding joined
joined-append [] ys = refl
joined-append (x ∷ xs) ys = ap (λ (r : List ℕ). x ++ r) (joined-append xs ys) ∙ sym (append_assoc x (joined xs) (joined ys))

pub joined_snoc : (count : ℕ) (f : ℕ → List ℕ) → joined (tabulate (suc count) f) ≡ joined (tabulate count f) ++ f count
joined_snoc count f =
    ap joined (tabulate_snoc count f) ∙ joined-append (tabulate count f) (f count ∷ []) ∙ (unfold joined in rw (append-nil (f count)))

pub below-joined : (m count : ℕ) (f : ℕ → List ℕ) → ((i : ℕ) → i < count → AllBelow m (f i)) → AllBelow m (joined (tabulate count f))
unfolding joined tabulate
below-joined m zero f h = below-nil m
below-joined m (suc count) f h =
    below-append m (f 0) _ (h 0 (zero-lt-suc count)) (below-joined m count (λ i. f (suc i)) (λ i l. h (suc i) (suc-le-suc l)))

pub length-joined : (size count : ℕ) (f : ℕ → List ℕ) → ((i : ℕ) → i < count → length (f i) ≡ size) → length (joined (tabulate count f)) ≡ count * size
unfolding joined tabulate
length-joined size zero f e = sym (zero-mul size)
length-joined size (suc count) f e =
    length-append (f 0) _ ∙ ap₂ ◌+◌ (e 0 (zero-lt-suc count)) (length-joined size count (λ i. f (suc i)) (λ i l. e (suc i) (suc-le-suc l)))
    ∙ add_comm size (count * size) ∙ sym (suc-mul count size)

chunk-zero : (size : ℕ) (list : List ℕ) → chunk size list 0 ≡ take size list
chunk-zero size list = rw (zero-mul size)

-- one place on is the same place after a part
chunk-suc : (size : ℕ) (list : List ℕ) (i : ℕ) → chunk size list (suc i) ≡ chunk size (drop size list) i
chunk-suc size list i = rw (drop-drop (i * size) size list, suc-mul i size, add_comm (i * size) size)

pub chunk-joined : (size count : ℕ) (f : ℕ → List ℕ) → ((i : ℕ) → i < count → length (f i) ≡ size) → {i : ℕ} → i < count
    → chunk size (joined (tabulate count f)) i ≡ f i
unfolding joined tabulate
chunk-joined size zero f e l = absurd (not-suc-le-zero l)
chunk-joined size (suc count) f e {i = zero} l = chunk-zero size _ ∙ take_at (f 0) _ size (e 0 l)
chunk-joined size (suc count) f e {i = suc i} l =
    chunk-suc size _ i ∙ ap (λ (r : List ℕ). chunk size r i) (drop_at (f 0) _ size (e 0 (zero-lt-suc count)))
    ∙ chunk-joined size count (λ i. f (suc i)) (λ i l. e (suc i) (suc-le-suc l)) (le_of_suc-le-suc l)

pub joined_chunks : (size count : ℕ) (list : List ℕ) → length list ≡ count * size → joined (tabulate count (chunk size list)) ≡ list
unfolding joined tabulate
joined_chunks size zero list e = empty list (e ∙ zero-mul size)
  where
    empty : (s : List ℕ) → length s ≡ 0 → [] ≡ s
    empty [] e = refl
    empty (x ∷ s) e = let z : ⊥ = omega arith in absurd z
joined_chunks size (suc count) list e =
    let left : length (drop size list) ≡ count * size = omega (arith, length-drop size list, suc-mul count size) in
    ap₂ ◌++◌ (chunk-zero size list) (ap joined (tabulate_cong count (λ i l. chunk-suc size list i)) ∙ joined_chunks size count (drop size list) left)
    ∙ take-append-drop size list

pub length-chunk : (size count : ℕ) (list : List ℕ) → count * size ≤ length list → {i : ℕ} → i < count → length (chunk size list i) ≡ size
length-chunk size count list room {i} l =
    length-take-le size (drop (i * size) list)
    (omega (arith, length-drop (i * size) list, suc-mul i size, mul-le-mul_right size l))

-- each part changed, and changed back
pub joined_back : (there back : List ℕ → List ℕ) (m k count : ℕ) (list : List ℕ) → length list ≡ count * m
    → ((i : ℕ) → i < count → length (there (chunk m list i)) ≡ k) → ((i : ℕ) → i < count → back (there (chunk m list i)) ≡ chunk m list i)
    → joined (tabulate count (λ i. back (chunk k (joined (tabulate count (λ i. there (chunk m list i)))) i))) ≡ list
joined_back there back m k count list exact sized same =
    ap joined (tabulate_cong count (λ i l. ap back (chunk-joined k count (λ i. there (chunk m list i)) sized l) ∙ same i l)) ∙ joined_chunks m count list exact

-- ---- an answer of two lengths and one more test

record TestsPassed (p : Parameters) (a A b B : ℕ) (test : Bool) (value out : List ℕ) : Type 0 where
  pub set : AcceptedSet p
  pub first : a ≡ A
  pub second : b ≡ B
  pub tested : test ≡ true
  pub gives : value ≡ out

module _ (p : Parameters) (a A b B k : ℕ) (test : Bool) (value out : List ℕ) where
  accepted_tests : answer (length_tests p (eqb a A && eqb b B)) (refuse (suc k) (not test) ∷ []) value ≡ accepted out → TestsPassed p a A b B test value out
  accepted_tests e =
      let told = answer-accepted_only _ _ _ out e in
      let lengths = length_tests_passed p _ told.0 in
      let exact = both_true (eqb a A) (eqb b B) lengths.1 in
      record {
        set = lengths.0;
        first = eqb-true a A exact.0;
        second = eqb-true b B exact.1;
        tested = not-false test (first_refusal_passed (suc k) _ _ (zero-lt-suc k) told.1).0;
        gives = told.2;
      }

  tests_accepted : TestsPassed p a A b B test value out → answer (length_tests p (eqb a A && eqb b B)) (refuse (suc k) (not test) ∷ []) value ≡ accepted out
  tests_accepted h =
      let later : first_refusal (refuse (suc k) (not test) ∷ []) ≡ 0 = first_refusal_last (suc k) (not test) (rw h.tested) in
      answer-exact p h.set (eqb a A && eqb b B) _ value later ∙ rw (eq-eqb a A h.first, eq-eqb b B h.second) (ap accepted h.gives)

-- ---- ring elements

module _ (p : Parameters) (elements : ℕ) (octets words : List ℕ) where
  abbrev From : ℕ → Type 0
  From len =
      TestsPassed p (length octets) (elements_length p elements) len (elements * p.n) (elements_fit p elements octets) (decoded_elements p elements octets) words

  abbrev To : ℕ → Type 0
  To len =
      TestsPassed p (length words) (elements * p.n) len (elements_length p elements) (coefficients_fit p.q words) (encoded (qlen p.q) words) octets

  pub from_to : (len : ℕ) → AllBelow 256 octets → from_octets_answer p elements octets len ≡ accepted words
      → to_octets_answer p elements words (length octets) ≡ accepted octets
  unfolding from_octets_answer to_octets_answer elements_fit decoded_elements elements_length
  from_to len below e =
      let h : From len = accepted_tests p _ _ _ _ 7 _ _ words e in
      let back : To (length octets)
      = record {
        set = h.set;
        first = rw (← h.gives) (length-decoded (qlen p.q) (elements * p.n) octets);
        second = h.first;
        tested = rw (← h.gives) h.tested;
        gives = rw (← h.gives) (encoded-decoded (qlen p.q) (elements * p.n) octets below h.first);
      } in
      tests_accepted p _ _ _ _ 7 _ _ octets back

  pub to_from : (len : ℕ) → to_octets_answer p elements words len ≡ accepted octets → from_octets_answer p elements octets (length words) ≡ accepted words
  unfolding from_octets_answer to_octets_answer elements_length
  to_from len e =
      let h : To len = accepted_tests p _ _ _ _ 7 _ _ octets e in
      let below = coefficients_fit-below p.q words h.tested in
      let set = accepted-set p h.set in
      let back : From (length words)
      = record {
        set = h.set;
        first = rw (← h.gives) (length-encoded (qlen p.q) words ∙ rw h.first);
        second = h.first;
        tested = rw (← h.gives) (elements_fit-encoded p set elements words h.first below);
        gives = rw (← h.gives) (decoded_elements-encoded p set elements words h.first below);
      } in
      tests_accepted p _ _ _ _ 7 _ _ words back

-- ---- packed small elements

module _ (p : Parameters) (elements : ℕ) (octets words : List ℕ) where
  abbrev octets_part : ℕ → List ℕ
  octets_part = chunk (small_length p) octets

  abbrev words_part : ℕ → List ℕ
  words_part = chunk p.n words

  abbrev unpacked_part : ℕ → List ℕ
  unpacked_part i = unpacked (small_bits p.l) p.n (octets_part i)

  abbrev packed_part : ℕ → List ℕ
  packed_part i = packed (small_bits p.l) (small_length p) (words_part i)

  abbrev PackedFrom : ℕ → Type 0
  PackedFrom len =
      TestsPassed p (length octets) (elements * small_length p) len (elements * p.n) (each_bits_clear p elements octets)
      (joined (tabulate elements unpacked_part)) words

  abbrev PackedTo : ℕ → Type 0
  PackedTo len =
      TestsPassed p (length words) (elements * p.n) len (elements * small_length p) (coefficients_fit p.l words)
      (joined (tabulate elements packed_part)) octets

  pub packed_from_to : (len : ℕ) → AllBelow 256 octets → packed_from_answer p elements octets len ≡ accepted words
      → packed_to_answer p elements words (length octets) ≡ accepted octets
  unfolding packed_from_answer packed_to_answer
  packed_from_to len below e =
      let h : PackedFrom len = accepted_tests p _ _ _ _ 6 _ _ words e in
      let range = (accepted-set p h.set).range in
      let b : ℕ = small_bits p.l in
      let size : ℕ = small_length p in
      let sized : (i : ℕ) → i < elements → length (unpacked_part i) ≡ p.n = λ i l. length-unpacked b p.n (octets_part i) in
      let same : (i : ℕ) → i < elements → packed b size (unpacked_part i) ≡ octets_part i
      = λ i l. rw (length-chunk size elements octets (le_of_eq (sym h.first)) l) at
      (packed-unpacked b p.n (p.n * b) (octets_part i) (small_bits-least p range) (le_refl (p.n * b))
      (below-take 256 size _ (below-drop 256 (i * size) octets below)) (every_at elements _ h.tested l)) in
      let back : PackedTo (length octets)
      = record {
        set = h.set;
        first = rw (← h.gives) (length-joined p.n elements unpacked_part sized);
        second = h.first;
        tested =
            coefficients_fit_true p.l words
            (rw (small_bits-power p range, ← h.gives) (below-joined (2 ^ b) elements unpacked_part (λ i l. unpacked-below b p.n (octets_part i))));
        gives = rw (← h.gives) (joined_back (unpacked b p.n) (packed b size) size p.n elements octets h.first sized same);
      } in
      tests_accepted p _ _ _ _ 7 _ _ octets back

  pub packed_to_from : (len : ℕ) → packed_to_answer p elements words len ≡ accepted octets → packed_from_answer p elements octets (length words) ≡ accepted words
  unfolding packed_from_answer packed_to_answer
  packed_to_from len e =
      let h : PackedTo len = accepted_tests p _ _ _ _ 7 _ _ octets e in
      let range = (accepted-set p h.set).range in
      let b : ℕ = small_bits p.l in
      let size : ℕ = small_length p in
      let small : AllBelow (2 ^ b) words = rw (← small_bits-power p range) (coefficients_fit-below p.l words h.tested) in
      let whole : (i : ℕ) → i < elements → length (words_part i) ≡ p.n = λ i l. length-chunk p.n elements words (le_of_eq (sym h.first)) l in
      let sized : (i : ℕ) → i < elements → length (packed_part i) ≡ size = λ i l. length-packed b size (words_part i) in
      let same : (i : ℕ) → i < elements → unpacked b p.n (packed_part i) ≡ words_part i
      = λ i l. unpacked-packed b p.n size (words_part i) (small_bits-least p range) (whole i l) (small_length-room p)
      (below-take (2 ^ b) p.n _ (below-drop (2 ^ b) (i * p.n) words small)) in
      let clear : (i : ℕ) → i < elements → padding_clear (p.n * b) (chunk size (joined (tabulate elements packed_part)) i) ≡ true
      = λ i l. rw (chunk-joined size elements packed_part sized l) (padding_clear-packed b p.n size (words_part i) (small_bits-least p range) (whole i l)) in
      let back : PackedFrom (length words)
      = record {
        set = h.set;
        first = rw (← h.gives) (length-joined size elements packed_part sized);
        second = h.first;
        tested = rw (← h.gives) (every_true elements clear);
        gives = rw (← h.gives) (joined_back (packed b size) (unpacked b p.n) p.n size elements words h.first sized same);
      } in
      tests_accepted p _ _ _ _ 6 _ _ words back

-- ---- a secret key: two packed elements

module _ (p : Parameters) (secret : List ℕ) (exact : length secret ≡ secret_length p) where
  second-half : chunk (small_length p) secret 1 ≡ drop (small_length p) secret
  second-half =
      chunk-suc (small_length p) secret 0 ∙ chunk-zero (small_length p) (drop (small_length p) secret)
      ∙ take_all (small_length p) _ (omega (arith, length-drop (small_length p) secret, secret_length_halves p))

  pub secret_bits_clear_each : each_bits_clear p 2 secret ≡ secret_bits_clear p secret
  unfolding secret_bits_clear every
  secret_bits_clear_each = rw (chunk-zero (small_length p) secret, second-half)

-- the first n words are u_x, the others u_y
pub unpacked-secret : (p : Parameters) (secret words : List ℕ) (len : ℕ) → packed_from_answer p 2 secret len ≡ accepted words → (k : ℕ) → k < p.n
    → (get_or words k 0 ≡ secret_x p secret k) × (get_or words (p.n + k) 0 ≡ secret_y p secret k)
unfolding packed_from_answer secret_x secret_y small_of joined tabulate
unpacked-secret p secret words len e k l =
    let h : PackedFrom p 2 secret words len = accepted_tests p _ _ _ _ 6 _ _ words e in
    let exact : length secret ≡ secret_length p = omega (arith, h.first, secret_length_halves p) in
    let x : List ℕ = unpacked_part p 2 secret words 0 in
    let y : List ℕ = unpacked_part p 2 secret words 1 in
    let sized : length x ≡ p.n = length-unpacked (small_bits p.l) p.n _ in
    let inside : k < length y = rw (length-unpacked (small_bits p.l) p.n (chunk (small_length p) secret 1)) l in (
      rw (← h.gives) (get_or-append x (y ++ []) 0 k (rw sized l) ∙ rw (chunk-zero (small_length p) secret)),
      rw (← h.gives)
          (rw sized at (get_or-append-add x (y ++ []) k 0) ∙ get_or-append y [] 0 k inside ∙ rw (second-half p secret exact)),
    )

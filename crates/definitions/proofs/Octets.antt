-- Why octets and coefficients are the same thing written twice: base 256 digits are unique, and a list of equal groups is cut where it was joined.
--
--   AllBelow               each number of a list is below a bound
--   number_of-octets_of ..   a number and its octets, both ways
--   coefficient_at-..       the coefficient at a place of octets put together from groups
--   place-.., wide_room    where the octets of a coefficient lie, and that some more follow
--   decoded-.., encoded-.. coefficients and their octets, both ways
--   octets_from_cong        a polynomial's octets depend on its coefficients alone
-- Assumes nothing.
use Prim.Native.Nat.{ℕ, zero, suc, ◌+◌, ◌*◌, ◌/◌, ◌%◌, ◌^◌, ◌≤◌, ◌<◌, suc-le-suc}
use mathlib.Core.Path.{◌≡◌, refl, sym, ap, ap₂, ◌∙◌}
use mathlib.Core.Bool.{true}
use mathlib.Core.List.{List, [], ◌∷◌, ◌++◌, append_assoc, append-nil}
use native.Mathlib.Nat.{mul-zero, mod-lt, div-lt_iff_lt-mul, not-suc-le-zero, le_of_suc-le-suc, zero-lt-suc, zero-mul, suc-mul, add_comm, pow-suc, le_trans}
use native.Mathlib.Nat.{mul-le-mul_right, mul-le-mul_left}
use native.Mathlib.Omega.{arith}
use lib.ListN.{length, get_or, take, drop, length-append, take-append-drop, length-drop}
use borrow.Author.Tests.{ltb-true, lt-ltb}
use lib.Dec.{ltb}
use lib.Seq.{take-append-le, drop-append-le, take_at, drop_at, drop-drop, length-take-le}
use Rattle.definitions.specs.Sequences.{tabulate, joined}
use Rattle.definitions.specs.Parameters.{Parameters, qlen, monomial_count}
use Rattle.definitions.specs.Monomials.{Polynomial, coefficients_of}
use Rattle.definitions.specs.Calls.{octets_from}
use Rattle.definitions.specs.Octets.{number_of, octets_of, coefficient_at, decoded, encoded, coefficients_fit}
use Rattle.definitions.proofs.Sums.{length-tabulate, get_or_tabulate, tabulate_cong, every_true, every_at}

-- ---- lists of numbers below a bound

abbrev pub AllBelow : ℕ → List ℕ → Type 0
AllBelow m xs = (i : ℕ) → i < length xs → get_or xs i 0 < m

pub below-nil : (m : ℕ) → AllBelow m []
below-nil m i l = absurd (not-suc-le-zero l)

pub below-cons : {m x : ℕ} (xs : List ℕ) → x < m → AllBelow m xs → AllBelow m (x ∷ xs)
below-cons xs h hs zero l = h
below-cons xs h hs (suc i) l = hs i (le_of_suc-le-suc l)

pub below_head : (m x : ℕ) (xs : List ℕ) → AllBelow m (x ∷ xs) → x < m
below_head m x xs h = h 0 (zero-lt-suc (length xs))

pub below-tail : (m x : ℕ) (xs : List ℕ) → AllBelow m (x ∷ xs) → AllBelow m xs
below-tail m x xs h i l = h (suc i) (suc-le-suc l)

pub below-append : (m : ℕ) (xs ys : List ℕ) → AllBelow m xs → AllBelow m ys → AllBelow m (xs ++ ys)
below-append m [] ys h k = k
below-append m (x ∷ xs) ys h k = below-cons (xs ++ ys) (below_head m x xs h) (below-append m xs ys (below-tail m x xs h) k)

pub below-take : (m n : ℕ) (xs : List ℕ) → AllBelow m xs → AllBelow m (take n xs)
below-take m zero xs h = below-nil m
below-take m (suc n) [] h = below-nil m
below-take m (suc n) (x ∷ xs) h = below-cons (take n xs) (below_head m x xs h) (below-take m n xs (below-tail m x xs h))

pub below-drop : (m n : ℕ) (xs : List ℕ) → AllBelow m xs → AllBelow m (drop n xs)
below-drop m zero xs h = h
below-drop m (suc n) [] h = h
below-drop m (suc n) (x ∷ xs) h = below-drop m n xs (below-tail m x xs h)

-- ---- a number and its octets

pub length-octets_of : (len x : ℕ) → length (octets_of len x) ≡ len
unfolding octets_of
length-octets_of zero x = refl
length-octets_of (suc len) x = ap suc (length-octets_of len (x / 256))

pub number_of-octets_of : (len x : ℕ) → x < 256 ^ len → number_of (octets_of len x) ≡ x
unfolding octets_of number_of
number_of-octets_of zero x h = omega arith
number_of-octets_of (suc len) x h =
    let l : x / 256 < 256 ^ len = omega arith in
    omega (arith, number_of-octets_of len (x / 256) l)

pub number_of-below : (s : List ℕ) → AllBelow 256 s → number_of s < 256 ^ length s
unfolding number_of
number_of-below [] h = omega arith
number_of-below (o ∷ s) h =
    let e : 256 ^ length (o ∷ s) ≡ 256 ^ length s * 256 = pow-suc 256 (length s) in
    omega (arith, below_head 256 o s h, number_of-below s (below-tail 256 o s h))

pub octets_of-number_of : (s : List ℕ) → AllBelow 256 s → octets_of (length s) (number_of s) ≡ s
unfolding octets_of number_of
octets_of-number_of [] h = refl
octets_of-number_of (o ∷ s) h =
    let b : o < 256 = below_head 256 o s h in
    let low : (o + 256 * number_of s) % 256 ≡ o = omega arith in
    let high : (o + 256 * number_of s) / 256 ≡ number_of s = omega arith in
    rw (low, high) (ap (λ (r : List ℕ). o ∷ r) (octets_of-number_of s (below-tail 256 o s h)))

-- ---- the coefficient at a place

pub coefficient_at-zero : (qlen : ℕ) (octets : List ℕ) → coefficient_at qlen octets 0 ≡ number_of (take qlen octets)
unfolding coefficient_at
coefficient_at-zero qlen octets = rw (zero-mul qlen)

-- one place on is the same place after a group
pub coefficient_at-suc : (qlen : ℕ) (octets : List ℕ) (m : ℕ) → coefficient_at qlen octets (suc m) ≡ coefficient_at qlen (drop qlen octets) m
unfolding coefficient_at
coefficient_at-suc qlen octets m = rw (drop-drop (m * qlen) qlen octets, suc-mul m qlen, add_comm (m * qlen) qlen)

pub decoded-suc : (qlen count : ℕ) (octets : List ℕ) → decoded qlen (suc count) octets ≡ number_of (take qlen octets) ∷ decoded qlen count (drop qlen octets)
unfolding decoded tabulate
decoded-suc qlen count octets =
    ap₂ ◌∷◌ (coefficient_at-zero qlen octets) (tabulate_cong count (λ m l. coefficient_at-suc qlen octets m))

pub encoded-cons : (qlen x : ℕ) (xs : List ℕ) → encoded qlen (x ∷ xs) ≡ octets_of qlen x ++ encoded qlen xs
unfolding encoded joined
encoded-cons qlen x xs = refl

-- ---- where the octets of a coefficient lie

module _ (m qlen : ℕ) {count total : ℕ} (inside : m < count) (exact : count * qlen ≤ total) where
  pub place_end : m * qlen + qlen ≤ total
  place_end = omega (arith, mul-le-mul_right qlen inside, suc-mul m qlen)

  pub place-fits : {bound : ℕ} → total < bound → m * qlen < bound
  place-fits h = omega (arith, place_end)

-- so many octets from a place on, where as many coefficients follow
pub wide_room : (m qlen octets : ℕ) {count total : ℕ} → m + octets ≤ count → 1 ≤ qlen → count * qlen ≤ total → m * qlen + octets ≤ total
wide_room m qlen octets inside pos exact = omega (arith, mul-le-mul_right qlen inside, mul-le-mul_left octets pos)

-- ---- coefficients and their octets

pub length-encoded : (qlen : ℕ) (xs : List ℕ) → length (encoded qlen xs) ≡ length xs * qlen
unfolding encoded joined
length-encoded qlen [] = sym (zero-mul qlen)
length-encoded qlen (x ∷ xs) =
    length-append (octets_of qlen x) (encoded qlen xs) ∙ ap₂ ◌+◌ (length-octets_of qlen x) (length-encoded qlen xs)
    ∙ add_comm qlen (length xs * qlen) ∙ sym (suc-mul (length xs) qlen)

pub length-decoded : (qlen count : ℕ) (octets : List ℕ) → length (decoded qlen count octets) ≡ count
unfolding decoded
length-decoded qlen count octets = length-tabulate count (coefficient_at qlen octets)

pub get_or-decoded : (qlen count : ℕ) (octets : List ℕ) {m : ℕ} → m < count → get_or (decoded qlen count octets) m 0 ≡ coefficient_at qlen octets m
unfolding decoded
get_or-decoded qlen count octets l = get_or_tabulate count (coefficient_at qlen octets) 0 l

pub encoded-append : (qlen : ℕ) (xs ys : List ℕ) → encoded qlen (xs ++ ys) ≡ encoded qlen xs ++ encoded qlen ys
unfolding encoded joined
encoded-append qlen [] ys = refl
encoded-append qlen (x ∷ xs) ys =
    ap (λ (r : List ℕ). octets_of qlen x ++ r) (encoded-append qlen xs ys) ∙ sym (append_assoc (octets_of qlen x) (encoded qlen xs) (encoded qlen ys))

-- what follows the octets of the coefficients is not read
pub decoded-encoded-append : (qlen : ℕ) (xs rest : List ℕ) → AllBelow (256 ^ qlen) xs → decoded qlen (length xs) (encoded qlen xs ++ rest) ≡ xs
decoded-encoded-append qlen [] rest h = unfold decoded tabulate in refl
decoded-encoded-append qlen (x ∷ xs) rest h =
    let group : length (octets_of qlen x) ≡ qlen = length-octets_of qlen x in
    let e : encoded qlen (x ∷ xs) ++ rest ≡ octets_of qlen x ++ (encoded qlen xs ++ rest)
    = ap (λ (r : List ℕ). r ++ rest) (encoded-cons qlen x xs) ∙ append_assoc (octets_of qlen x) (encoded qlen xs) rest in
    rw e (decoded-suc qlen (length xs) _
    ∙ ap₂ ◌∷◌ (ap number_of (take_at (octets_of qlen x) _ qlen group) ∙ number_of-octets_of qlen x (below_head _ x xs h))
    (ap (decoded qlen (length xs)) (drop_at (octets_of qlen x) _ qlen group) ∙ decoded-encoded-append qlen xs rest (below-tail _ x xs h)))

pub decoded-encoded : (qlen : ℕ) (xs : List ℕ) → AllBelow (256 ^ qlen) xs → decoded qlen (length xs) (encoded qlen xs) ≡ xs
decoded-encoded qlen xs h = rw append-nil at (decoded-encoded-append qlen xs [] h)

pub coefficient_at-encoded : (qlen : ℕ) (xs rest : List ℕ) (m : ℕ) → AllBelow (256 ^ qlen) xs → m < length xs
    → coefficient_at qlen (encoded qlen xs ++ rest) m ≡ get_or xs m 0
coefficient_at-encoded qlen xs rest m h l =
    sym (get_or-decoded qlen (length xs) (encoded qlen xs ++ rest) l) ∙ ap (λ (r : List ℕ). get_or r m 0) (decoded-encoded-append qlen xs rest h)

-- octets of which the length is known
octets_of-number_of_at : (len : ℕ) (s : List ℕ) → AllBelow 256 s → length s ≡ len → octets_of len (number_of s) ≡ s
octets_of-number_of_at len s h e = rw e at (octets_of-number_of s h)

empty : (s : List ℕ) → length s ≡ 0 → [] ≡ s
empty [] e = refl
empty (x ∷ s) e = let z : ⊥ = omega arith in absurd z

pub encoded-decoded : (qlen count : ℕ) (octets : List ℕ) → AllBelow 256 octets → length octets ≡ count * qlen
    → encoded qlen (decoded qlen count octets) ≡ octets
encoded-decoded qlen zero octets h e = unfold encoded decoded joined tabulate in empty octets (e ∙ zero-mul qlen)
encoded-decoded qlen (suc count) octets h e =
    let full : qlen ≤ length octets = omega (arith, suc-mul count qlen) in
    let left : length (drop qlen octets) ≡ count * qlen = omega (arith, length-drop qlen octets, suc-mul count qlen) in
    ap (encoded qlen) (decoded-suc qlen count octets)
    ∙ encoded-cons qlen (number_of (take qlen octets)) (decoded qlen count (drop qlen octets))
    ∙ ap₂ ◌++◌ (octets_of-number_of_at qlen (take qlen octets) (below-take 256 qlen octets h) (length-take-le qlen octets full))
    (encoded-decoded qlen count (drop qlen octets) (below-drop 256 qlen octets h) left)
    ∙ take-append-drop qlen octets

-- ---- octets that go on

pub coefficient_at-append : (qlen : ℕ) (octets more : List ℕ) (m : ℕ) → suc m * qlen ≤ length octets
    → coefficient_at qlen (octets ++ more) m ≡ coefficient_at qlen octets m
unfolding coefficient_at
coefficient_at-append qlen octets more m h =
    let start : m * qlen ≤ length octets = omega (arith, suc-mul m qlen) in
    let full : qlen ≤ length (drop (m * qlen) octets) = omega (arith, suc-mul m qlen, length-drop (m * qlen) octets) in
    rw (drop-append-le (m * qlen) octets more start, take-append-le qlen (drop (m * qlen) octets) more full)

pub decoded-append : (qlen count : ℕ) (octets more : List ℕ) → count * qlen ≤ length octets
    → decoded qlen count (octets ++ more) ≡ decoded qlen count octets
unfolding decoded
decoded-append qlen count octets more h =
    tabulate_cong count (λ m l. coefficient_at-append qlen octets more m (le_trans (mul-le-mul_right qlen l) h))

-- ---- the test that each coefficient is below q

pub coefficients_fit-below : (q : ℕ) (xs : List ℕ) → coefficients_fit q xs ≡ true → AllBelow q xs
unfolding coefficients_fit
coefficients_fit-below q xs e i l = ltb-true (get_or xs i 0) q (every_at (length xs) (λ m. ltb (get_or xs m 0) q) e l)

-- the coefficient at a place of octets that passed the test
pub coefficients_fit_at : (q qlen count : ℕ) (octets : List ℕ) → coefficients_fit q (decoded qlen count octets) ≡ true → {m : ℕ} → m < count
    → coefficient_at qlen octets m < q
coefficients_fit_at q qlen count octets e {m} l =
    rw (get_or-decoded qlen count octets l) at (coefficients_fit-below q (decoded qlen count octets) e m (rw (length-decoded qlen count octets) l))

pub coefficients_fit_true : (q : ℕ) (xs : List ℕ) → AllBelow q xs → coefficients_fit q xs ≡ true
unfolding coefficients_fit
coefficients_fit_true q xs h = every_true (length xs) (λ i l. lt-ltb (get_or xs i 0) q (h i l))

-- ---- a polynomial's octets

quotient_below : (elements n m : ℕ) → m < elements * n → m / n < elements
quotient_below elements zero m l = let z : ⊥ = omega (arith, mul-zero elements) in absurd z
quotient_below elements (suc n) m l = (div-lt_iff_lt-mul (zero-lt-suc n)).1 l

positive_factor : (elements n m : ℕ) → m < elements * n → 0 < n
positive_factor elements zero m l = let z : ⊥ = omega (arith, mul-zero elements) in absurd z
positive_factor elements (suc n) m l = zero-lt-suc n

-- they depend on the coefficients of its elements alone
pub coefficients_of_cong : (n elements : ℕ) {f g : Polynomial} → ((i : ℕ) → i < elements → (k : ℕ) → k < n → f i k ≡ g i k)
    → coefficients_of n elements f ≡ coefficients_of n elements g
unfolding coefficients_of
coefficients_of_cong n elements h =
    tabulate_cong (elements * n) (λ m l. h (m / n) (quotient_below elements n m l) (m % n) (mod-lt m (positive_factor elements n m l)))

pub octets_from_cong : (p : Parameters) (d : ℕ) {f g : Polynomial} → ((i : ℕ) → i < monomial_count d → (k : ℕ) → k < p.n → f i k ≡ g i k)
    → octets_from p d f ≡ octets_from p d g
unfolding octets_from
octets_from_cong p d h = ap (encoded (qlen p.q)) (coefficients_of_cong p.n (monomial_count d) h)

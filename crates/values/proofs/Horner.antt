-- Why Horner's rule, x inside and y outside, gives the value: the list's monomials are these rows, and each step takes one power out.
--
--   horner-sum       the elements times the powers of u;  horner_cong: by the elements and u below n alone
--   horner-stepped   one element more, modulo q: what the loops go by
--   starts-..        the places by counts of monomials;  place_inside: a row's term is one of the list, place_term: and each of the list is one
--   nested-value     the nested rule gives the value
--   rows-..          what a test at every place of the rows tells of the list
-- Assumes nothing.
use Prim.Native.Nat.{ℕ, zero, suc, ◌+◌, ◌-◌, ◌%◌, ◌≤◌, ◌<◌}
use mathlib.Core.Path.{◌≡◌, refl, sym, ap, ap₂, ◌∙◌}
use mathlib.Core.Bool.{Bool, true, false}
use native.Mathlib.Nat.{zero-add, add_comm}
use native.Mathlib.Numerals.{add-one}
use native.Mathlib.Omega.{arith}
use Rattle.definitions.specs.Sequences.{sum, every, tabulate}
use Rattle.definitions.specs.Parameters.{monomial_count}
use Rattle.definitions.specs.Ring.{Element, conv, one, power, multiply_add}
use Rattle.definitions.specs.Monomials.{Polynomial, monomial_at, monomials, of_degree, evaluated, value_over, value}
use Rattle.definitions.proofs.Sums.{sum_cong, sum-append, every_true, every_at}
use Rattle.definitions.proofs.Congruence.{cong_trans, cong_of_eq, cong_mod, cong_add}
use Rattle.definitions.proofs.Ring.{conv-comm, conv-assoc, conv-sum_left, conv_cong, conv_cong_modulo, conv-zero_left, conv-one_right}
use Rattle.definitions.proofs.Monomials.{monomial_count-suc, monomial_count_pos, monomial_count-le, monomial_at-first, monomials-degree, monomials_apart}
use Rattle.definitions.proofs.Rows.{monomial_at-tail, place_of, sum_rows}
use Rattle.values.specs.Horner.{horner, stepped, starts, term_place, row_of, nested, row_fits}

-- ---- one row

sum_first : (c : ℕ) (g : ℕ → ℕ) → sum (suc c) g ≡ g 0 + sum c (λ s. g (suc s))
sum_first c g =
    let e : suc c ≡ 1 + c = omega arith in
    ap (λ (m : ℕ). sum m g) e ∙ sum-append 1 c g
    ∙ ap₂ ◌+◌ (unfold sum in zero-add (g 0)) (sum_cong c (λ s l. ap g (let z : 1 + s ≡ suc s = omega arith in z)))

module _ (n : ℕ) (u : Element) (h : ℕ → Element) where
  pub horner-sum : (c : ℕ) {k : ℕ} → k < n → horner n u h c k ≡ sum c (λ s. conv n (h (c - suc s)) (power n u s) k)
  unfolding horner power
  horner-sum zero l = unfold sum in refl
  horner-sum (suc c) {k} l =
      let later : conv n (horner n u h c) u k ≡ sum c (λ s. conv n (h (suc c - suc (suc s))) (power n u (suc s)) k) =
      conv_cong n (λ i s. horner-sum c s) (λ i s. refl) k
      ∙ conv-sum_left n c (λ s. conv n (h (c - suc s)) (power n u s)) u k
      ∙ sum_cong c (λ s m.
      let e : c - suc s ≡ suc c - suc (suc s) = omega arith in
      conv-assoc n (h (c - suc s)) (power n u s) u k
      ∙ conv_cong n (λ i t. refl) (λ i t. conv-comm n (power n u s) u i) k
      ∙ ap (λ (m : ℕ). conv n (h m) (conv n u (power n u s)) k) e) in
      let e : c ≡ suc c - suc 0 = omega arith in
      let last : h c k ≡ conv n (h (suc c - suc 0)) one k = sym (conv-one_right n (h c) l) ∙ ap (λ (m : ℕ). conv n (h m) one k) e in
      ap₂ ◌+◌ later last ∙ add_comm _ _ ∙ sym (sum_first c (λ s. conv n (h (suc c - suc s)) (power n u s) k))

pub horner_cong : (n : ℕ) {u v : Element} {h g : ℕ → Element} → ((i : ℕ) → i < n → u i ≡ v i) → (c : ℕ)
    → ((s : ℕ) → s < c → (k : ℕ) → k < n → h s k ≡ g s k) → (k : ℕ) → k < n → horner n u h c k ≡ horner n v g c k
unfolding horner
horner_cong n hu zero hh k l = refl
horner_cong n hu (suc c) hh k l = ap₂ ◌+◌ (conv_cong n (horner_cong n hu c (λ s m. hh s (omega arith))) hu k) (hh c (omega arith) k l)

-- ---- modulo q, step by step

pub horner-stepped : (n q : ℕ) (u : Element) (h : ℕ → Element) (c : ℕ) {a v x : Element} → (0 < c → (i : ℕ) → i < n → a i ≡ horner n u h c i % q)
    → ((i : ℕ) → i < n → v i ≡ u i) → ((i : ℕ) → i < n → x i ≡ h c i % q) → (k : ℕ) → k < n → stepped n q c a v x k ≡ horner n u h (suc c) k % q
unfolding stepped horner multiply_add
horner-stepped n q u h zero ha hv hx k l =
    hx k l ∙ ap (λ (y : ℕ). y % q) (sym (ap (λ (y : ℕ). y + h 0 k) (conv-zero_left n u (λ i s. refl) k) ∙ zero-add (h 0 k)))
horner-stepped n q u h (suc c) ha hv hx k l =
    (cong_add
    (conv_cong_modulo n {b = horner n u h (suc c)}
    (λ i s. cong_trans (cong_of_eq (ha (omega arith) i s)) (cong_mod q (horner n u h (suc c) i))) (λ i s. cong_of_eq (hv i s)) k)
    (cong_trans (cong_of_eq (hx k l)) (cong_mod q (h (suc c) k)))).same

-- ---- the places of a row's terms

pub starts-suc : (d s : ℕ) → starts d (s + 1) ≡ starts d s + (d + 1 - s)
unfolding starts sum
starts-suc d s = rw (add-one s)

pub starts-zero : (d : ℕ) → starts d 0 ≡ 0
unfolding starts sum
starts-zero d = refl

pub starts-count : (d s : ℕ) → s ≤ d → starts d s + monomial_count (d - s) ≡ monomial_count d
starts-count d zero l = let e : d - 0 ≡ d = omega arith in rw (starts-zero d, e) (zero-add (monomial_count d))
starts-count d (suc s) l =
    let next : starts d (suc s) ≡ starts d s + (d + 1 - s) = unfold starts sum in refl in
    let e : d - s ≡ suc (d - suc s) = omega arith in
    let fewer : monomial_count (d - s) ≡ d - suc s + 2 + monomial_count (d - suc s) = ap monomial_count e ∙ monomial_count-suc (d - suc s) in
    omega (arith, starts-count d s (omega arith))

pub degree-lt-count : (d : ℕ) → d < monomial_count d
degree-lt-count zero = monomial_count_pos zero
degree-lt-count (suc d) = omega (arith, monomial_count-suc d, monomial_count_pos d)

pub place_inside : (d s t : ℕ) → s ≤ t → t ≤ d → term_place d t s < monomial_count d
place_inside d s t l m = omega (arith, starts-count d s (omega arith), degree-lt-count (d - s))

-- the place of x^i y^j, in the row of y^j
place-row : (d i j : ℕ) → i + j ≤ d → term_place d (d - j) (d - j - i) ≡ place_of d i j
place-row d i j l =
    let e : d - (d - j - i) ≡ i + j = omega arith in
    let count : starts d (d - j - i) + monomial_count (i + j) ≡ monomial_count d = rw e at (starts-count d (d - j - i) (omega arith)) in
    omega arith

top_at_lem : (d j : ℕ) → j ≤ d → monomial_at d j ≡ record { x = d - j; y = j }
top_at_lem zero zero l = unfold monomial_at monomials of_degree tabulate in refl
top_at_lem zero (suc j) l = absurd (omega arith)
top_at_lem (suc d) j l = monomial_at-first d j (omega arith)

monomial_place : (d i j : ℕ) → i + j ≤ d → monomial_at d (place_of d i j) ≡ record { x = i; y = j }
monomial_place d i j l =
    let e : i + j + (d - (i + j)) ≡ d = omega arith in
    let back : i + j - j ≡ i = omega arith in
    rw e at (monomial_at-tail (i + j) (d - (i + j)) j) ∙ top_at_lem (i + j) j (omega arith) ∙ ap (λ (x : ℕ). record { x = x; y = j }) back

-- each place of the list is one of a row
place_term : (d i : ℕ) → i < monomial_count d → term_place d (d - (monomial_at d i).y) (d - (monomial_at d i).y - (monomial_at d i).x) ≡ i
place_term d i l =
    let x : ℕ = (monomial_at d i).x in
    let y : ℕ = (monomial_at d i).y in
    let low : x + y ≤ d = monomials-degree d i in
    let inside : place_of d x y < monomial_count d = omega (arith, monomial_count-le (x + y) d low, degree-lt-count (x + y)) in
    place-row d x y low ∙ sym (monomials_apart d l inside (sym (monomial_place d x y low)))

module _ (d : ℕ) (fits : ℕ → Bool) where
  pub rows_all : every (suc d) (row_fits d fits) ≡ true → every (monomial_count d) fits ≡ true
  rows_all e =
      every_true (monomial_count d) (λ i l.
      let y : ℕ = (monomial_at d i).y in
      let row : row_fits d fits (d - y) ≡ true = every_at (suc d) (row_fits d fits) e (omega arith) in
      rw (place_term d i l) at (every_at (suc (d - y)) (λ s. fits (term_place d (d - y) s)) row {k = d - y - (monomial_at d i).x} (omega arith)))

  pub rows_not : (t : ℕ) → t ≤ d → row_fits d fits t ≡ false → every (monomial_count d) fits ≡ false
  rows_not t l e = go (every (monomial_count d) fits) refl
    where
      go : (b : Bool) → every (monomial_count d) fits ≡ b → every (monomial_count d) fits ≡ false
      go false h = h
      go true h = let z : row_fits d fits t ≡ true = every_true (suc t) (λ s m. every_at (monomial_count d) fits h (place_inside d s t (omega arith) l)) in cc

-- ---- the value

module _ (n d : ℕ) (f : Polynomial) (ux uy : Element) where
  abbrev term : ℕ → ℕ → ℕ → ℕ
  term k i j = conv n (f (place_of d i j)) (conv n (power n ux i) (power n uy j)) k

  value_rows : (k : ℕ) → value n d f ux uy k ≡ sum (suc d) (λ j. sum (suc (d - j)) (λ i. term k i j))
  unfolding value value_over evaluated
  value_rows k =
      sum_rows d (λ m. conv n (f m) (conv n (power n ux (monomial_at d m).x) (power n uy (monomial_at d m).y)) k)
      ∙ sum_cong (suc d) (λ j l. sum_cong (suc (d - j)) (λ i s. rw (monomial_place d i j (omega arith))))

  row-sum : (j : ℕ) → j ≤ d → {k : ℕ} → k < n → row_of n d f ux (d - j) k ≡ sum (suc (d - j)) (λ i. conv n (f (place_of d i j)) (power n ux i) k)
  unfolding row_of
  row-sum j m {k} l =
      horner-sum n ux (λ s. f (starts d s + (d - (d - j)))) (suc (d - j)) l
      ∙ sum_cong (suc (d - j)) (λ i s.
      let e : suc (d - j) - suc i ≡ d - j - i = omega arith in
      ap (λ (m : ℕ). conv n (f m) (power n ux i) k) (ap (λ (m : ℕ). starts d m + (d - (d - j))) e ∙ place-row d i j (omega arith)))

  pub nested-value : {k : ℕ} → k < n → nested n d f ux uy k ≡ value n d f ux uy k
  unfolding nested
  nested-value {k} l =
      horner-sum n uy (row_of n d f ux) (suc d) l
      ∙ sum_cong (suc d) (λ j m.
      let e : suc d - suc j ≡ d - j = omega arith in
      ap (λ (t : ℕ). conv n (row_of n d f ux t) (power n uy j) k) e
      ∙ conv_cong n {a = row_of n d f ux (d - j)} {b = λ i. sum (suc (d - j)) (λ s. conv n (f (place_of d s j)) (power n ux s) i)}
      (λ i s. row-sum j (omega arith) s) (λ i s. refl) k
      ∙ conv-sum_left n (suc (d - j)) (λ s. conv n (f (place_of d s j)) (power n ux s)) (power n uy j) k
      ∙ sum_cong (suc (d - j)) (λ i s. conv-assoc n (f (place_of d i j)) (power n ux i) (power n uy j) k))
      ∙ sym (value_rows k)

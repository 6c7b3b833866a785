-- The product in R_q is the product of the polynomials with the places from n on added to those from 0 on; it may be reduced before and
-- after.
-- Assumes nothing.
use Prim.Native.Nat.{ℕ, ◌+◌, ◌-◌, ◌*◌, ◌%◌, ◌≤◌, ◌<◌}
use native.Mathlib.Nat.{add-zero, zero-add, zero-mul, mul-add, mod-eq_of_lt, add-mod_right, le_of_lt}
use native.Mathlib.Omega.{arith}
use native.Mathlib.Decide.{dec_lt, ℕ_discrete}
use mathlib.Core.Path.{◌≡◌, sym, ◌∙◌, ap}
use mathlib.Core.List.{List}
use lib.ListN.{get_or, length}
use Rattle.definitions.specs.Sequences.{sum, same_number, tabulate}
use Rattle.definitions.specs.Ring.{Element, InRing, conv, multiply_add}
use Rattle.definitions.proofs.Sums.{same_number_self, same_number-other, sum_cong, sum-add, sum-zero, sum-append, tabulate_cong}
use Rattle.definitions.proofs.Congruence.{Cong, cong_refl, cong_mod, cong_add}
use Rattle.definitions.proofs.Ring.{conv-le}
use Rattle.ring.specs.Work.{part, written, Apart, product_added}
use Rattle.ring.specs.Linear.{linear}
use Rattle.ring.proofs.Linear.{linear_cong}
use Rattle.ring.proofs.Work.{part-written, part_apart}
use Rattle.rows.proofs.Bounds.{eighty_small}
use Rattle.products.specs.Products.{MultipliedInPlace}
use Rattle.products.proofs.Loading.{Loaded}

sum-padded : (n m : ℕ) (f : ℕ → ℕ) → n ≤ m → ((i : ℕ) → n ≤ i → i < m → f i ≡ 0) → sum m f ≡ sum n f
sum-padded n m f h none =
    let e : m ≡ n + (m - n) = omega arith in
    let rest : sum (m - n) (λ i. f (n + i)) ≡ 0 = sum-zero (m - n) (λ i l. none (n + i) (omega arith) (omega arith)) in
    ap (λ (j : ℕ). sum j f) e ∙ sum-append n (m - n) f ∙ rw rest (add-zero (sum n f))

-- coefficients that are 0 from n on
pub linear-padded : (n m : ℕ) (a b : Element) → n ≤ m → ((i : ℕ) → n ≤ i → i < m → a i ≡ 0) → ((i : ℕ) → n ≤ i → i < m → b i ≡ 0) → (k : ℕ)
    → linear m a b k ≡ linear n a b k
unfolding linear
linear-padded n m a b h none-a none-b k =
    sum-padded n m (λ i. a i * sum m (λ j. b j * same_number (i + j) k)) h (λ i s l. rw (none-a i s l) (zero-mul (sum m (λ j. b j * same_number (i + j) k))))
    ∙ sum_cong n (λ i l. ap (λ (x : ℕ). a i * x)
    (sum-padded n m (λ j. b j * same_number (i + j) k) h (λ j s u. rw (none-b j s u) (zero-mul (same_number (i + j) k)))))

same_number_shift : (n j k : ℕ) → same_number (n + j) (n + k) ≡ same_number j k
same_number_shift n j k =
    elim (ℕ_discrete j k) [
      | yes e ↦ rw e (same_number_self (n + k) ∙ sym (same_number_self k))
      | no f ↦ same_number-other (λ (e : n + j ≡ n + k). f (omega arith)) ∙ sym (same_number-other f)
    ]

-- the place (i + j) modulo n is i + j or n less
same_number_wrapped : (n i j k : ℕ) → i < n → j < n → k < n → same_number ((i + j) % n) k ≡ same_number (i + j) k + same_number (i + j) (n + k)
same_number_wrapped n i j k hi hj hk =
    elim (dec_lt (i + j) n) [
      | yes l ↦ rw (mod-eq_of_lt l, same_number-other {j = i + j} {k = n + k} (λ e. omega arith)) (sym (add-zero (same_number (i + j) k)))
      | no g ↦ let r : ℕ = i + j - n in
          let e : i + j ≡ r + n = omega arith in
          let f : i + j ≡ n + r = omega arith in
          let small : r < n = omega arith in
          let wrap : (i + j) % n ≡ r = ap (λ (x : ℕ). x % n) e ∙ add-mod_right r n ∙ mod-eq_of_lt small in
          let none : same_number (i + j) k ≡ 0 = same_number-other (λ (e : i + j ≡ k). omega arith) in
          rw (wrap, none, zero-add) (sym (ap (λ (x : ℕ). same_number x (n + k)) f ∙ same_number_shift n r k))
    ]

pub conv-linear : (n : ℕ) (a b : Element) {k : ℕ} → k < n → conv n a b k ≡ linear n a b k + linear n a b (n + k)
unfolding conv linear
conv-linear n a b {k} l = sum_cong n (λ i s. row i s) ∙ sum-add n (λ i. a i * moved i k) (λ i. a i * moved i (n + k))
  where
    moved : ℕ → ℕ → ℕ
    moved i h = sum n (λ j. b j * same_number (i + j) h)

    at : (i j : ℕ) → i < n → j < n → b j * same_number ((i + j) % n) k ≡ b j * same_number (i + j) k + b j * same_number (i + j) (n + k)
    at i j s u = ap (λ (x : ℕ). b j * x) (same_number_wrapped n i j k s u l) ∙ mul-add (b j) (same_number (i + j) k) (same_number (i + j) (n + k))

    row : (i : ℕ) → i < n → a i * sum n (λ j. b j * same_number ((i + j) % n) k) ≡ a i * moved i k + a i * moved i (n + k)
    row i s =
        ap (λ (x : ℕ). a i * x) (sum_cong n (λ j u. at i j s u) ∙ sum-add n (λ j. b j * same_number (i + j) k) (λ j. b j * same_number (i + j) (n + k)))
        ∙ mul-add (a i) (moved i k) (moved i (n + k))

-- f and g are the factors, filled up to m, and p their product, reduced: its fold is the product in R_q
module _ (n m q : ℕ) (a b f g p : Element) (fits : n ≤ m) (left : Loaded n m a f) (right : Loaded n m b g)
    (same : (k : ℕ) → k < m + m → p k ≡ linear m f g k % q) where
  product_cong : (k : ℕ) → k < m + m → Cong q (p k) (linear n a b k)
  product_cong k l =
      rw (same k l, linear-padded n m f g fits left.outside right.outside k, linear_cong n left.inside right.inside k) (cong_mod q (linear n a b k))

  product_folded : (x : ℕ) {k : ℕ} → k < n → (p k + p (n + k) + x) % q ≡ (conv n a b k + x) % q
  product_folded x {k} l =
      rw (conv-linear n a b l) (cong_add (cong_add (product_cong k (omega arith)) (product_cong (n + k) (omega arith))) (cong_refl {x = x})).same

  pub product-added : (at : ℕ) (old : List ℕ) {new : List ℕ} → new ≡ written at (tabulate n (λ k. (p k + p (n + k) + part old at k) % q)) old
      → new ≡ written at (tabulate n (multiply_add q n a b (part old at))) old
  unfolding multiply_add
  product-added at old e = e ∙ ap (λ (l : List ℕ). written at l old) (tabulate_cong n (λ k l. product_folded (part old at k) l))

-- ---- sums that are not reduced
module _ (n q : ℕ) (a b : Element) (low : List ℕ) (same : (k : ℕ) → get_or low k 0 ≡ linear n a b k) where
  sums_folded : {k : ℕ} → k < n → get_or low k 0 + get_or low (n + k) 0 ≡ conv n a b k
  sums_folded {k} l = rw (same k, same (n + k)) (sym (conv-linear n a b l))

  -- they fit a word
  pub sums_small : {top : ℕ} → n ≤ 80 → q * top ≤ 230584300921369395 → InRing q n a → InRing top n b → (k : ℕ) → k < n
      → get_or low k 0 + get_or low (n + k) 0 < 18446744073709551616
  sums_small {top} few h x y k l =
      omega (arith, sums_folded l, conv-le n q top a b (λ i s. le_of_lt (x i s)) (λ i s. le_of_lt (y i s)) k, eighty_small few h)

  pub sums_added : (at : ℕ) (old : List ℕ) {new : List ℕ}
      → new ≡ written at (tabulate n (λ k. (get_or low k 0 + get_or low (n + k) 0 + part old at k) % q)) old
      → new ≡ written at (tabulate n (multiply_add q n a b (part old at))) old
  unfolding multiply_add
  sums_added at old e = e ∙ ap (λ (l : List ℕ). written at l old) (tabulate_cong n (λ k l. ap (λ (x : ℕ). (x + part old at k) % q) (sums_folded l)))

-- ---- what a product added in place says of the three elements
pub multiplied_in_place : {q n a b c : ℕ} {old new : List ℕ} → c + n ≤ length old → Apart c a n → Apart c b n → new ≡ product_added n q a b c old → MultipliedInPlace q n a b c old new
multiplied_in_place {q} {n} {a} {b} {c} {old} {new} room first second e =
    let f : Element = multiply_add q n (part old a) (part old b) (part old c) in
    let stays : (from : ℕ) → Apart c from n → (k : ℕ) → k < n → part new from k ≡ part old from k =
    λ from apart k l. ap (λ (w : List ℕ). part w from k) e ∙ part_apart c from n n f old (omega arith) room apart l
    in
    record {
      holds = λ k l. ap (λ (w : List ℕ). part w c k) e ∙ part-written c n f old (omega arith) l;
      first-stays = stays a first;
      second-stays = stays b second;
    }

-- Laws of sums, of tests at every place, and of lists given place by place: each by induction over the number of places.
-- Assumes nothing.
use Prim.Native.Nat.{ℕ, zero, suc, ◌+◌, ◌*◌, ◌≤◌, ◌<◌, zero-le, suc-le-suc}
use native.Mathlib.Nat.{add-zero, add-suc, zero-add, zero-mul, mul-zero, mul-one, mul_comm, le_refl, le_step, lt-suc_self, not-suc-le-zero, le_of_suc-le-suc, add-le-add}
use native.Mathlib.Omega.{arith}
use native.Mathlib.Decide.{ℕ_discrete}
use mathlib.Core.Path.{◌≡◌, refl, sym, ◌∙◌, ap, ap₂}
use mathlib.Core.Bool.{Bool, true, false, ◌&&◌}
use mathlib.Core.List.{List, [], ◌∷◌}
use lib.ListN.{length, get_or}
use lib.Arith.{lt_of_le-ne}
use borrow.Author.Tests.{eq-eqb, ne_eqb}
use Rattle.definitions.specs.Sequences.{sum, every, tabulate, same_number}
use Rattle.definitions.proofs.Tests.{both_true}

pub same_number_self : (k : ℕ) → same_number k k ≡ 1
same_number_self k = rw (eq-eqb k k refl)

pub same_number-other : {j k : ℕ} → (j ≡ k → ⊥) → same_number j k ≡ 0
same_number-other {j} {k} h = rw (ne_eqb j k h)

pub same_number-comm : (j k : ℕ) → same_number j k ≡ same_number k j
same_number-comm j k = elim (ℕ_discrete j k) [ yes e ↦ rw e | no h ↦ same_number-other h ∙ sym (same_number-other (λ e. h (sym e))) ]

pub sum_cong : (n : ℕ) {f g : ℕ → ℕ} → ((k : ℕ) → k < n → f k ≡ g k) → sum n f ≡ sum n g
unfolding sum
sum_cong zero h = refl
sum_cong (suc n) h = ap₂ ◌+◌ (sum_cong n (λ k l. h k (le_step l))) (h n (lt-suc_self n))

pub sum-add : (n : ℕ) (f g : ℕ → ℕ) → sum n (λ i. f i + g i) ≡ sum n f + sum n g
unfolding sum
sum-add zero f g = refl
sum-add (suc n) f g = omega (arith, sum-add n f g)

pub sum-scale : (n c : ℕ) (f : ℕ → ℕ) → sum n (λ i. c * f i) ≡ c * sum n f
unfolding sum
sum-scale zero c f = sym (mul-zero c)
sum-scale (suc n) c f = omega (arith, sum-scale n c f)

pub sum-scale_right : (n c : ℕ) (f : ℕ → ℕ) → sum n (λ i. f i * c) ≡ sum n f * c
sum-scale_right n c f = sum_cong n (λ i l. mul_comm (f i) c) ∙ sum-scale n c f ∙ mul_comm c (sum n f)

pub sum_const : (n c : ℕ) → sum n (λ i. c) ≡ n * c
unfolding sum
sum_const zero c = sym (zero-mul c)
sum_const (suc n) c = omega (arith, sum_const n c)

pub sum-zero : (n : ℕ) {f : ℕ → ℕ} → ((k : ℕ) → k < n → f k ≡ 0) → sum n f ≡ 0
sum-zero n h = sum_cong n h ∙ sum_const n 0 ∙ mul-zero n

pub sum_comm : (n m : ℕ) (f : ℕ → ℕ → ℕ) → sum n (λ i. sum m (λ j. f i j)) ≡ sum m (λ j. sum n (λ i. f i j))
unfolding sum
sum_comm zero m f = sym (sum-zero m (λ k l. refl))
sum_comm (suc n) m f = ap (λ (s : ℕ). s + sum m (f n)) (sum_comm n m f) ∙ sym (sum-add m (λ j. sum n (λ i. f i j)) (f n))

pub sum-le : (n : ℕ) {f g : ℕ → ℕ} → ((k : ℕ) → k < n → f k ≤ g k) → sum n f ≤ sum n g
unfolding sum
sum-le zero h = le_refl 0
sum-le (suc n) h = add-le-add (sum-le n (λ k l. h k (le_step l))) (h n (lt-suc_self n))

pub sum-append : (n m : ℕ) (f : ℕ → ℕ) → sum (n + m) f ≡ sum n f + sum m (λ i. f (n + i))
unfolding sum
sum-append n zero f = rw (add-zero n) (sym (add-zero (sum n f)))
sum-append n (suc m) f = rw (add-suc n m) (omega (arith, sum-append n m f))

-- a sum of which one term alone is not 0
pub sum-single : (n : ℕ) {f : ℕ → ℕ} {i : ℕ} → i < n → ((k : ℕ) → k < n → (k ≡ i → ⊥) → f k ≡ 0) → sum n f ≡ f i
unfolding sum
sum-single zero l h = absurd (not-suc-le-zero l)
sum-single (suc n) {f} {i} l h =
    elim (ℕ_discrete n i) [
      | yes e ↦ let rest : sum n f ≡ 0 = sum-zero n (λ k s. h k (le_step s) (λ g. omega arith)) in
          rw rest (zero-add (f n) ∙ ap f e)
      | no g ↦ rw (h n (lt-suc_self n) g) (add-zero (sum n f) ∙ sum-single n (lt_of_le-ne (le_of_suc-le-suc l) (λ e. g (sym e))) (λ k s. h k (le_step s)))
    ]

pub sum_pick : (n : ℕ) (f : ℕ → ℕ) {i : ℕ} → i < n → sum n (λ j. f j * same_number j i) ≡ f i
sum_pick n f {i} l =
    sum-single n {f = λ j. f j * same_number j i} l (λ k s h. rw (same_number-other h) (mul-zero (f k)))
    ∙ rw (same_number_self i) (mul-one (f i))

pub sum_pick_left : (n : ℕ) (f : ℕ → ℕ) {i : ℕ} → i < n → sum n (λ j. f j * same_number i j) ≡ f i
sum_pick_left n f {i} l = sum_cong n (λ j s. rw (same_number-comm i j)) ∙ sum_pick n f l

pub sum_pick_outside : (n : ℕ) (f : ℕ → ℕ) {i : ℕ} → n ≤ i → sum n (λ j. f j * same_number j i) ≡ 0
sum_pick_outside n f {i} l = sum-zero n (λ k s. rw (same_number-other {j = k} {k = i} (λ e. omega arith)) (mul-zero (f k)))

pub every_true : (n : ℕ) {f : ℕ → Bool} → ((k : ℕ) → k < n → f k ≡ true) → every n f ≡ true
unfolding every
every_true zero h = refl
every_true (suc n) h = rw (every_true n (λ k l. h k (le_step l)), h n (lt-suc_self n))

pub every_cong : (n : ℕ) {f g : ℕ → Bool} → ((k : ℕ) → k < n → f k ≡ g k) → every n f ≡ every n g
unfolding every
every_cong zero h = refl
every_cong (suc n) h = ap₂ ◌&&◌ (every_cong n (λ k l. h k (le_step l))) (h n (lt-suc_self n))

pub every_at : (n : ℕ) (f : ℕ → Bool) → every n f ≡ true → {k : ℕ} → k < n → f k ≡ true
unfolding every
every_at zero f e l = absurd (not-suc-le-zero l)
every_at (suc n) f e {k} l =
    elim (ℕ_discrete k n) [
      | yes g ↦ rw g (both_true (every n f) (f n) e).1
      | no g ↦ every_at n f (both_true (every n f) (f n) e).0 (lt_of_le-ne (le_of_suc-le-suc l) g)
    ]

-- a test that fails at one place does not hold at every place
pub every_false : (n : ℕ) (f : ℕ → Bool) {k : ℕ} → k < n → f k ≡ false → every n f ≡ false
every_false n f {k} l e = go (every n f) refl
  where
    go : (t : Bool) → every n f ≡ t → every n f ≡ false
    go false h = h
    go true h = let z : f k ≡ true = every_at n f h l in cc

module _ {A : Type 0} where
  pub length-tabulate : (n : ℕ) (f : ℕ → A) → length (tabulate n f) ≡ n
  unfolding tabulate
  length-tabulate zero f = refl
  length-tabulate (suc n) f = ap suc (length-tabulate n (λ i. f (suc i)))

  pub get_or_tabulate : (n : ℕ) (f : ℕ → A) (d : A) {k : ℕ} → k < n → get_or (tabulate n f) k d ≡ f k
  unfolding tabulate
  get_or_tabulate zero f d l = absurd (not-suc-le-zero l)
  get_or_tabulate (suc n) f d {k = zero} l = refl
  get_or_tabulate (suc n) f d {k = suc k} l = get_or_tabulate n (λ i. f (suc i)) d (le_of_suc-le-suc l)

  pub tabulate_cong : (n : ℕ) {f g : ℕ → A} → ((k : ℕ) → k < n → f k ≡ g k) → tabulate n f ≡ tabulate n g
  unfolding tabulate
  tabulate_cong zero h = refl
  tabulate_cong (suc n) h = ap₂ ◌∷◌ (h 0 (suc-le-suc zero-le)) (tabulate_cong n (λ k l. h (suc k) (suc-le-suc l)))

  pub tabulate-get_or : (l : List A) (d : A) → tabulate (length l) (λ i. get_or l i d) ≡ l
  unfolding tabulate
  tabulate-get_or [] d = refl
  tabulate-get_or (x ∷ l) d = ap (λ (r : List A). x ∷ r) (tabulate-get_or l d)

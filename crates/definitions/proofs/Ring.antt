-- The laws of the product with t^n = 1.
--
--   pair             an element read as a linear map: a_0 φ(0) + .. + a_(n-1) φ(n-1)
--   AtMost           every coefficient at most α
--   t                t itself
--
-- A product pairs as one factor after the other does (`pair_conv`), so the product's laws are those of + modulo n.
-- Assumes nothing.
use Prim.Native.Nat.{ℕ, zero, suc, ◌+◌, ◌-◌, ◌*◌, ◌%◌, ◌≤◌, ◌<◌, zero-le}
use native.Mathlib.Nat.{sub-zero, mul-one, zero-add, suc-add, add_assoc, add_comm, mul-zero, zero-mul, mul_comm, mul_assoc, add-mul, mul_left_comm, mul-le-mul_left, mod-lt, mod-eq_of_lt, mod_self, zero-mod, mod-add-mod, add-mod-mod, add-mod_right}
use native.Mathlib.Numerals.{add-one}
use native.Mathlib.Omega.{arith}
use native.Mathlib.Decide.{dec_lt}
use mathlib.Core.Path.{◌≡◌, refl, sym, ◌∙◌, ap, ap₂, fun_ext}
use Rattle.definitions.specs.Sequences.{sum, same_number}
use Rattle.definitions.specs.Ring.{Element, add, scale, conv, one, power}
use Rattle.definitions.proofs.Sums.{same_number_self, same_number-other, sum_cong, sum-add, sum-scale, sum-scale_right, sum_const, sum-zero, sum_comm, sum-le, sum-single, sum_pick_left}
use Rattle.definitions.proofs.Congruence.{Cong, cong_refl, cong_mul, cong_sum}

-- every coefficient at most α
abbrev pub AtMost : ℕ → ℕ → Element → Type 0
AtMost α n a = (k : ℕ) → k < n → a k ≤ α

unfoldable pub pair : ℕ → Element → (ℕ → ℕ) → ℕ
pair n a φ = sum n (λ i. a i * φ i)

pub conv_pair : (n : ℕ) (a b : Element) (k : ℕ) → conv n a b k ≡ pair n a (λ i. pair n b (λ j. same_number ((i + j) % n) k))
unfolding conv pair
conv_pair n a b k = refl

pub pair_cong : (n : ℕ) {a b : Element} {φ ψ : ℕ → ℕ} → ((i : ℕ) → i < n → a i ≡ b i) → ((i : ℕ) → i < n → φ i ≡ ψ i) → pair n a φ ≡ pair n b ψ
unfolding pair
pair_cong n h g = sum_cong n (λ i l. ap₂ ◌*◌ (h i l) (g i l))

pub pair_inner : (n : ℕ) (a : Element) {φ ψ : ℕ → ℕ} → ((i : ℕ) → i < n → φ i ≡ ψ i) → pair n a φ ≡ pair n a ψ
pair_inner n a h = pair_cong n (λ i l. refl) h

-- a sum outside goes inside
pub pair_sum_lem : (n m : ℕ) (a : Element) (ψ : ℕ → ℕ → ℕ) → sum m (λ k. pair n a (λ i. ψ i k)) ≡ pair n a (λ i. sum m (λ k. ψ i k))
unfolding pair
pair_sum_lem n m a ψ = sum_comm m n (λ k i. a i * ψ i k) ∙ sum_cong n (λ i l. sum-scale m (a i) (ψ i))

pub pair_scale : (n c : ℕ) (a : Element) (φ : ℕ → ℕ) → c * pair n a φ ≡ pair n a (λ i. c * φ i)
unfolding pair
pair_scale n c a φ = sym (sum-scale n c (λ i. a i * φ i)) ∙ sum_cong n (λ i l. mul_left_comm c (a i) (φ i))

pub pair_comm : (n : ℕ) (a b : Element) (ψ : ℕ → ℕ → ℕ) → pair n a (λ i. pair n b (λ j. ψ i j)) ≡ pair n b (λ j. pair n a (λ i. ψ i j))
pair_comm n a b ψ = unfold pair in (sum_cong n (λ i l. pair_scale n (a i) b (ψ i)) ∙ pair_sum_lem n n b (λ j i. a i * ψ i j))

-- an element that is 1 at one place
pub pair_pick : (n : ℕ) {x : ℕ} → x < n → (φ : ℕ → ℕ) → pair n (λ k. same_number x k) φ ≡ φ x
unfolding pair
pair_pick n {x} l φ = sum_cong n (λ i s. mul_comm (same_number x i) (φ i)) ∙ sum_pick_left n φ l

pub pair_conv : (n : ℕ) (a b : Element) (φ : ℕ → ℕ) → pair n (conv n a b) φ ≡ pair n a (λ i. pair n b (λ j. φ ((i + j) % n)))
pair_conv n a b φ =
    outside
    ∙ pair_sum_lem n n a (λ i k. pair n b (λ j. φ k * same_number ((i + j) % n) k))
    ∙ pair_inner n a (λ i l. pair_sum_lem n n b (λ j k. φ k * same_number ((i + j) % n) k) ∙ pair_inner n b (λ j s. sum_pick_left n φ (mod-lt (i + j) {m = n} (omega arith))))
  where
    at : (k : ℕ) → conv n a b k * φ k ≡ pair n a (λ i. pair n b (λ j. φ k * same_number ((i + j) % n) k))
    at k =
        mul_comm (conv n a b k) (φ k)
        ∙ ap (λ (z : ℕ). φ k * z) (conv_pair n a b k)
        ∙ pair_scale n (φ k) a (λ i. pair n b (λ j. same_number ((i + j) % n) k))
        ∙ pair_inner n a (λ i l. pair_scale n (φ k) b (λ j. same_number ((i + j) % n) k))

    outside : pair n (conv n a b) φ ≡ sum n (λ k. pair n a (λ i. pair n b (λ j. φ k * same_number ((i + j) % n) k)))
    outside = unfold pair in sum_cong n (λ k l. at k)

pub conv-comm : (n : ℕ) (a b : Element) (k : ℕ) → conv n a b k ≡ conv n b a k
conv-comm n a b k =
    conv_pair n a b k
    ∙ pair_comm n a b (λ i j. same_number ((i + j) % n) k)
    ∙ pair_inner n b (λ j l. pair_inner n a (λ i s. ap (λ (x : ℕ). same_number (x % n) k) (add_comm i j)))
    ∙ sym (conv_pair n b a k)

mod-assoc : (n i j m : ℕ) → ((i + j) % n + m) % n ≡ (i + (j + m) % n) % n
mod-assoc n i j m = rw (mod-add-mod, add-mod-mod, add_assoc)

pub conv-assoc : (n : ℕ) (a b c : Element) (k : ℕ) → conv n (conv n a b) c k ≡ conv n a (conv n b c) k
conv-assoc n a b c k =
    conv_pair n (conv n a b) c k
    ∙ pair_conv n a b (λ m. pair n c (λ l. same_number ((m + l) % n) k))
    ∙ pair_inner n a (λ i _. pair_inner n b (λ j _. pair_inner n c (λ m _. ap (λ (x : ℕ). same_number x k) (mod-assoc n i j m))))
    ∙ sym (conv_pair n a (conv n b c) k ∙ pair_inner n a (λ i _. pair_conv n b c (λ m. same_number ((i + m) % n) k)))

pub conv_left_comm : (n : ℕ) (a b c : Element) (k : ℕ) → conv n a (conv n b c) k ≡ conv n b (conv n a c) k
conv_left_comm n a b c k =
    let turn : conv n a b ≡ conv n b a = fun_ext (conv-comm n a b) in
    sym (conv-assoc n a b c k) ∙ ap (λ (u : Element). conv n u c k) turn ∙ conv-assoc n b a c k

pub conv_interchange : (n : ℕ) (a b c d : Element) (k : ℕ) → conv n (conv n a b) (conv n c d) k ≡ conv n (conv n a c) (conv n b d) k
conv_interchange n a b c d k =
    let inner : conv n b (conv n c d) ≡ conv n c (conv n b d) = fun_ext (conv_left_comm n b c d) in
    conv-assoc n a b (conv n c d) k ∙ ap (λ (u : Element). conv n a u k) inner ∙ sym (conv-assoc n a c (conv n b d) k)

-- the product is linear in each factor

pub conv-add_left : (n : ℕ) (a b c : Element) (k : ℕ) → conv n (add a b) c k ≡ conv n a c k + conv n b c k
unfolding conv add
conv-add_left n a b c k = sum_cong n (λ i l. add-mul (a i) (b i) _) ∙ sum-add n _ _

pub conv-add : (n : ℕ) (a b c : Element) (k : ℕ) → conv n a (add b c) k ≡ conv n a b k + conv n a c k
conv-add n a b c k = conv-comm n a (add b c) k ∙ conv-add_left n b c a k ∙ ap₂ ◌+◌ (conv-comm n b a k) (conv-comm n c a k)

pub conv-scale_left : (n c : ℕ) (a b : Element) (k : ℕ) → conv n (scale c a) b k ≡ c * conv n a b k
unfolding conv scale
conv-scale_left n c a b k = sum_cong n (λ i l. mul_assoc c (a i) _) ∙ sum-scale n c _

pub conv-sum_left : (n m : ℕ) (f : ℕ → Element) (b : Element) (k : ℕ) → conv n (λ j. sum m (λ i. f i j)) b k ≡ sum m (λ i. conv n (f i) b k)
unfolding conv
conv-sum_left n m f b k = sum_cong n (λ j l. sym (sum-scale_right m _ (λ i. f i j))) ∙ sum_comm n m (λ j i. f i j * sum n (λ h. b h * same_number ((j + h) % n) k))

pub conv-sum : (n m : ℕ) (a : Element) (f : ℕ → Element) (k : ℕ) → conv n a (λ j. sum m (λ i. f i j)) k ≡ sum m (λ i. conv n a (f i) k)
conv-sum n m a f k =
    conv-comm n a (λ j. sum m (λ i. f i j)) k ∙ conv-sum_left n m f a k ∙ sum_cong m (λ i l. conv-comm n (f i) a k)

-- what a product depends on, and its places

pub conv_cong : (n : ℕ) {a b c d : Element} → ((i : ℕ) → i < n → a i ≡ b i) → ((i : ℕ) → i < n → c i ≡ d i) → (k : ℕ) → conv n a c k ≡ conv n b d k
unfolding conv
conv_cong n h g k = sum_cong n (λ i l. ap₂ ◌*◌ (h i l) (sum_cong n (λ j s. ap (λ (x : ℕ). x * same_number ((i + j) % n) k) (g j s))))

pub conv_cong_modulo : (n : ℕ) {q : ℕ} {a b c d : Element} → ((i : ℕ) → i < n → Cong q (a i) (b i)) → ((i : ℕ) → i < n → Cong q (c i) (d i)) → (k : ℕ) → Cong q (conv n a c k) (conv n b d k)
unfolding conv
conv_cong_modulo n h g k = cong_sum n (λ i l. cong_mul (h i l) (cong_sum n (λ j s. cong_mul (g j s) cong_refl)))

pub conv-zero_left : (n : ℕ) {a : Element} (b : Element) → ((i : ℕ) → i < n → a i ≡ 0) → (k : ℕ) → conv n a b k ≡ 0
unfolding conv
conv-zero_left n b h k = sum-zero n (λ i l. rw (h i l) (zero-mul _))

pub conv_outside : (n : ℕ) (a b : Element) {k : ℕ} → n ≤ k → conv n a b k ≡ 0
unfolding conv
conv_outside n a b {k} out =
    sum-zero n (λ i l. ap (λ (x : ℕ). a i * x) (sum-zero n (λ j s. none i j s)) ∙ mul-zero (a i))
  where
    none : (i j : ℕ) → j < n → b j * same_number ((i + j) % n) k ≡ 0
    none i j s =
        let small : (i + j) % n < n = mod-lt (i + j) (omega arith) in
        rw (same_number-other {j = (i + j) % n} {k = k} (λ e. omega arith)) (mul-zero (b j))

-- the place that i turns into the place k
turned : (n i j k : ℕ) → i < n → j < n → (i + j) % n ≡ k → j ≡ (k + (n - i)) % n
turned n i j k l s e =
    let back : i + j + (n - i) ≡ j + n = omega arith in
    sym (rw (← e, mod-add-mod, back, add-mod_right) (mod-eq_of_lt s))

turns : (n i k : ℕ) → i < n → k < n → (i + (k + (n - i)) % n) % n ≡ k
turns n i k l s =
    let there : i + (k + (n - i)) ≡ k + n = omega arith in
    rw (add-mod-mod, there, add-mod_right) (mod-eq_of_lt s)

-- the gathered product, a place at a time
pub conv_at : (n : ℕ) (a b : Element) {k : ℕ} → k < n → conv n a b k ≡ sum n (λ i. a i * b ((k + (n - i)) % n))
unfolding conv
conv_at n a b {k} s = sum_cong n (λ i l. ap (λ (x : ℕ). a i * x) (at i l))
  where
    at : (i : ℕ) → i < n → sum n (λ j. b j * same_number ((i + j) % n) k) ≡ b ((k + (n - i)) % n)
    at i l =
        sum-single n {f = λ j. b j * same_number ((i + j) % n) k} (mod-lt (k + (n - i)) {m = n} (omega arith))
        (λ j u other. rw (same_number-other (λ (e : (i + j) % n ≡ k). other (turned n i j k l u e))) (mul-zero (b j)))
        ∙ rw (turns n i k l s, same_number_self k) (mul-one (b ((k + (n - i)) % n)))

pub sum-le-most : (n α : ℕ) (a : Element) → AtMost α n a → sum n a ≤ n * α
sum-le-most n α a h = rw (← sum_const n α) (sum-le n h)

-- a coefficient is at most the largest of one factor times the sum of the other's
pub conv-le-sum : (n α : ℕ) (a b : Element) → AtMost α n a → (k : ℕ) → conv n a b k ≤ α * sum n b
conv-le-sum n α a b h k = elim (dec_lt k n) [ yes s ↦ inside s | no s ↦ rw (conv_outside n a b {k = k} (omega arith)) zero-le ]
  where
    term_le : (i : ℕ) → i < n → b i * a ((k + (n - i)) % n) ≤ α * b i
    term_le i l = rw (mul_comm α (b i)) (mul-le-mul_left (b i) (h ((k + (n - i)) % n) (mod-lt (k + (n - i)) (omega arith))))

    inside : k < n → conv n a b k ≤ α * sum n b
    inside s = rw (conv-comm n a b k, conv_at n b a s, ← sum-scale n α b) (sum-le n term_le)

pub conv-le : (n α β : ℕ) (a b : Element) → AtMost α n a → AtMost β n b → (k : ℕ) → conv n a b k ≤ n * α * β
conv-le n α β a b h g k = omega (arith, conv-le-sum n α a b h k, mul-le-mul_left α (sum-le-most n β b g))

-- t^x times an element moves each coefficient x places on
pub conv_shift : (n : ℕ) {x : ℕ} → x < n → (a : Element) {k : ℕ} → k < n → conv n (λ j. same_number x j) a k ≡ a ((k + (n - x)) % n)
conv_shift n {x} l a {k} s = conv_at n (λ j. same_number x j) a s ∙ unfold pair in pair_pick n l (λ i. a ((k + (n - i)) % n))

pub conv-one : (n : ℕ) (a : Element) {k : ℕ} → k < n → conv n one a k ≡ a k
unfolding one
conv-one n a {k} l =
    conv_shift n {x = 0} (omega arith) a l
    ∙ ap a (rw (sub-zero, add-mod_right) (mod-eq_of_lt l))

pub conv-one_right : (n : ℕ) (a : Element) {k : ℕ} → k < n → conv n a one k ≡ a k
conv-one_right n a {k} l = conv-comm n a one k ∙ conv-one n a l

pub power-add : (n : ℕ) (a : Element) (i j : ℕ) {k : ℕ} → k < n → power n a (i + j) k ≡ conv n (power n a i) (power n a j) k
unfolding power
power-add n a zero j {k} l = rw (zero-add j) (sym (conv-one n (power n a j) l))
power-add n a (suc i) j {k} l =
    rw (suc-add i j)
    (conv_cong n (λ m s. refl) (λ m s. power-add n a i j s) k ∙ sym (conv-assoc n a (power n a i) (power n a j) k))

-- t itself
abbrev pub t : ℕ → Element
t n k = same_number (1 % n) k

pub power_t : (n i : ℕ) {k : ℕ} → k < n → power n (t n) i k ≡ same_number (i % n) k
unfolding power one
power_t n zero {k} l = rw zero-mod
power_t n (suc i) {k} l =
    conv_cong n (λ m s. refl) (λ m s. power_t n i s) k
    ∙ conv_pair n (t n) (λ j. same_number (i % n) j) k
    ∙ pair_pick n (mod-lt 1 {m = n} (omega arith)) (λ h. pair n (λ j. same_number (i % n) j) (λ j. same_number ((h + j) % n) k))
    ∙ pair_pick n (mod-lt i {m = n} (omega arith)) (λ j. same_number ((1 % n + j) % n) k)
    ∙ ap (λ (x : ℕ). same_number x k) (rw (mod-add-mod, add-mod-mod, add_comm 1 i, add-one))

pub power_t_n : (n : ℕ) {k : ℕ} → k < n → power n (t n) n k ≡ one k
unfolding one
power_t_n n {k} l = power_t n n l ∙ rw mod_self

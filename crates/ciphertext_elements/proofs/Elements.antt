-- What one element takes: its noise and its message are small enough to be added, and the sum of all three is the element's.
--
--   small_scaled     a small coefficient, times at most ℓ, is below q;  noise_scaled, message_scaled: those of the noise and the message
--   scaled_requires  what adding a multiple of part 6 to the sum asks;  gains_scaled: what it leaves
--   noise_at         the m-th noise element
--   constant_term-..  the message goes to the constant's place alone
--   sum_shared       a shared product is the product;  sum_element: the three, added
-- Assumes nothing.
use Prim.Native.Nat.{ℕ, suc, ◌+◌, ◌-◌, ◌*◌, ◌≤◌, ◌<◌}
use native.Mathlib.Nat.{le_refl, mul-le-mul, one-mul}
use native.Mathlib.Omega.{arith}
use mathlib.Core.Path.{◌≡◌, refl, sym, ◌∙◌, ap}
use mathlib.Core.Logic.{inr}
use mathlib.Core.List.{List}
use borrow.Author.Tests.{eq-eqb, ne_eqb}
use lib.ListN.{length, get_or, take, drop}
use Rattle.definitions.specs.Parameters.{Parameters, degree, bound, small_bits, small_length, monomial_count}
use Rattle.definitions.specs.Ring.{Element, element_of, InRing, scale}
use Rattle.definitions.specs.Monomials.{constant_term}
use Rattle.definitions.specs.Octets.{unpacked}
use Rattle.definitions.specs.Draws.{small_drawn, noise_drawn}
use Rattle.definitions.specs.Calls.{polynomial_from, small_of, noise_of}
use Rattle.definitions.proofs.Parameters.{Accepted, range_least, range_most, key-degree-most, mask-degree-most}
use Rattle.definitions.proofs.Congruence.{cong_of_eq}
use Rattle.definitions.proofs.Packing.{length-unpacked}
use Rattle.definitions.proofs.Small.{unpacked_small, small_drawn_small}
use Rattle.definitions.proofs.Monomials.{count_fifteen}
use Rattle.parameters.proofs.NoiseBound.{partial, power, partial_suc, partial_le, bound_partial, turn_start}
use Rattle.ring.specs.Work.{part, Apart, scaled_added}
use Rattle.ring.proofs.Work.{Wrote, wrote}
use Rattle.mask_products.specs.Products.{sum_in, product_term, SumIs, SumGains}
use Rattle.mask_products.proofs.Sums.{sum_cong, sum_then, sum_gains, gains_spare}
use Rattle.shared_products.specs.Sharing.{key_in, PreparedKey}
use Rattle.ciphertext_elements.specs.Elements.{encrypted_sum}
use Rattle.ciphertext_elements.proofs.Ciphertext.{product_cong}

module _ (p : Parameters) (a : Accepted p) where
  -- the first term of the bound
  first_term : p.l - 1 + p.l * (p.l - 1) ≤ bound p
  first_term =
      let start =
      turn_start p.l p.n 0 (record { least = range_least p a.range; most = range_most p a.range })
      (record { least = a.ring_least; most = a.ring_most }) (omega arith) in
      let one : partial p.l p.n (0 + 1) ≤ partial p.l p.n (degree p + 1) = partial_le p.l p.n (omega arith) in
      let first : partial p.l p.n (0 + 1) ≡ partial p.l p.n 0 + p.l * ((0 + 1) * power p.l p.n 0) = partial_suc p.l p.n 0 in
      let same : p.l * ((0 + 1) * power p.l p.n 0) ≡ p.l * (p.l - 1) = ap (λ (x : ℕ). p.l * x) (one-mul _ ∙ sym start.pow-is) in
      omega (arith, bound_partial p, start.total_is)

  small_scaled : {c y : ℕ} → c ≤ p.l → y < p.l → c * y < p.q
  small_scaled {c} {y} hc hy =
      let most : y ≤ p.l - 1 = omega arith in
      let h : c * y ≤ p.l * (p.l - 1) = mul-le-mul hc most in
      omega (arith, first_term, a.modulus_above)

  pub noise_scaled : (random : List ℕ) (k : ℕ) → k < p.n → p.l * element_of (noise_drawn p random) k < p.q
  unfolding noise_drawn
  noise_scaled random k l = small_scaled (le_refl p.l) ((small_drawn_small p a (take (small_length p) random)).below k l)

  pub message_scaled : (message : List ℕ) (k : ℕ) → k < p.n → 1 * element_of (unpacked (small_bits p.l) p.n message) k < p.q
  message_scaled message k l = small_scaled (omega (arith, range_least p a.range)) ((unpacked_small p a message).below k l)

  pub degree-most : p.dx + p.dr ≤ 4
  degree-most = omega (arith, key-degree-most p a, mask-degree-most p a)

  pub count_most : monomial_count (degree p) ≤ 15
  count_most = count_fifteen (degree p) degree-most

-- ---- part 6 is filled, and c times it is added
module _ (p : Parameters) (c : ℕ) {a : Element} {old mid : List ℕ} (room : length old ≡ 8 * p.n) (w : Wrote (6 * p.n) p.n a old mid) where
  pub scaled_requires : p.q < 2147483648 → InRing p.q p.n (sum_in p old) → ((k : ℕ) → k < p.n → c * a k < p.q)
      → ((7 * p.n + p.n ≤ length mid) × (6 * p.n + p.n ≤ length mid) × Apart (7 * p.n) (6 * p.n) p.n × (p.q < 2147483648))
      × (InRing p.q p.n (sum_in p mid) × InRing p.q p.n (scale c (part mid (6 * p.n))))
  unfolding scale
  scaled_requires small below s =
      let long = w.as_long in (
        (omega arith, omega arith, inr (omega arith), small),
        ((λ k l. rw (w.after (7 * p.n + k) (omega arith)) (below k l)), (λ k l. rw (w.inside k l) (s k l))),
      )

  pub gains_scaled : {new : List ℕ} → new ≡ scaled_added p.n p.q c (6 * p.n) (7 * p.n) mid → SumGains p (λ mask k. c * a k) old new
  gains_scaled e =
      gains_spare (λ mask k. c * a k) w (sum_gains p (wrote (omega (arith, w.as_long)) e)) (λ k l. ap (λ (x : ℕ). c * x) (w.inside k l))

-- ---- the noise
pub length_noise : (p : Parameters) (random : List ℕ) → length (noise_drawn p random) ≡ p.n
unfolding noise_drawn small_drawn
length_noise p random = length-unpacked (small_bits p.l) p.n (take (small_length p) random)

pub noise_at : (p : Parameters) (noise : List ℕ) (m : ℕ) {small : ℕ} (k : ℕ) → small ≡ small_length p → element_of (noise_drawn p (drop (m * small) noise)) k ≡ noise_of p noise m k
unfolding noise_of
noise_at p noise m k e = ap (λ (s : ℕ). get_or (noise_drawn p (drop (m * s) noise)) k 0) e

-- ---- the message goes to the constant's place alone
pub constant_term_last : (p : Parameters) (message : List ℕ) (m k : ℕ) → m + 1 ≡ monomial_count (degree p)
    → 1 * element_of (unpacked (small_bits p.l) p.n message) k ≡ constant_term (degree p) (small_of p message) m k
unfolding constant_term small_of
constant_term_last p message m k e = rw (eq-eqb (suc m) (monomial_count (degree p)) (omega arith)) (one-mul _)

pub constant_term-other : (d m : ℕ) (a : Element) (k : ℕ) → (m + 1 ≡ monomial_count d → ⊥) → constant_term d a m k ≡ 0
unfolding constant_term
constant_term-other d m a k h = rw (ne_eqb (suc m) (monomial_count d) (λ e. h (omega arith)))

-- ---- all three
pub sum_shared : {p : Parameters} {public work list : List ℕ} (m : ℕ) {new : List ℕ} → PreparedKey p public work list
    → SumIs p (product_term p (key_in p list) m) work new → SumIs p (product_term p (polynomial_from p public) m) work new
sum_shared {p} m r s = sum_cong s (λ k l. cong_of_eq (product_cong p.n p.dx p.dr r.prepared.elements (λ i h j b. refl) m k))

pub sum_element : {p : Parameters} (public message noise : List ℕ) (m : ℕ) {old mid last new : List ℕ}
    → SumIs p (product_term p (polynomial_from p public) m) old mid
    → SumGains p (λ mask k. p.l * noise_of p noise m k) mid last
    → SumGains p (λ mask. constant_term (degree p) (small_of p message) m) last new → SumIs p (encrypted_sum p public message noise m) old new
sum_element {p} public message noise m {old} {last = last} product noisy whole =
    let both : SumIs p (λ mask k. product_term p (polynomial_from p public) m mask k + p.l * noise_of p noise m k) old last = sum_then _ product noisy (λ k l. refl) in
    sum_then _ both whole (λ k l. refl)

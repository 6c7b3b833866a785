-- Why element after element gives the ciphertext's octets, and that they depend on the key's and the mask's coefficients alone.
--
--   product_cong, encrypted_with_cong    the same coefficients give the same product and the same ciphertext
--   Written                             the octets of the first m elements stand at the front
--   elements_none, elements_step, elements_end   none;  one element more;  all of them
-- Assumes nothing.
use Prim.Native.Nat.{ℕ, suc, ◌+◌, ◌-◌, ◌*◌, ◌/◌, ◌%◌, ◌≤◌, ◌<◌}
use native.Mathlib.Nat.{zero-mul, le_refl, mul-le-mul_right}
use native.Mathlib.Omega.{arith}
use mathlib.Core.Path.{◌≡◌, refl, sym, ◌∙◌, ap, ap₂}
use mathlib.Core.List.{List, ◌++◌, append_assoc}
use lib.Arith.{digits_div, digits_mod}
use lib.ListN.{length, get_or, take, drop, length-append}
use lib.Seq.{take_at, take_all, get_or-take, get_or-drop, length-take-le}
use borrow.Rule.Slice.PartMut.{put_mid}
use Rattle.definitions.specs.Sequences.{sum, tabulate}
use Rattle.definitions.specs.Parameters.{Parameters, degree, qlen, monomial_count, elements_length, ciphertext_length}
use Rattle.definitions.specs.Ring.{Element, add, modulo, scale}
use Rattle.definitions.specs.Monomials.{Polynomial, coefficients_of, constant_term, sum_of, product_of, monomial_at, same_monomial}
use Rattle.definitions.specs.Octets.{encoded}
use Rattle.definitions.specs.Calls.{polynomial_from, small_of, octets_from, noise_of, encrypted_with}
use Rattle.definitions.proofs.Sums.{sum_cong, length-tabulate, tabulate_cong, tabulate-get_or}
use Rattle.definitions.proofs.Filling.{tabulate-add, length_borrowed}
use Rattle.definitions.proofs.Ring.{conv_cong}
use Rattle.definitions.proofs.Octets.{length-encoded, encoded-append}
use Rattle.ring.specs.Work.{part, written}
use Rattle.ring.proofs.Borrowed.{put_mid_written}
use Rattle.mask_products.specs.Products.{mask_in, sum_in, SumIs}
use Rattle.ciphertext_elements.specs.Elements.{encrypted_sum}

abbrev pub SameUpTo : ℕ → ℕ → Polynomial → Polynomial → Type 0
SameUpTo elements n f g = (i : ℕ) → i < elements → (k : ℕ) → k < n → f i k ≡ g i k

pub product_cong : (n d e : ℕ) {f f' g g' : Polynomial} → SameUpTo (monomial_count d) n f f' → SameUpTo (monomial_count e) n g g' → (m k : ℕ)
    → product_of n d e f g m k ≡ product_of n d e f' g' m k
unfolding product_of
product_cong n d e h s m k =
    sum_cong (monomial_count d) (λ i l. sum_cong (monomial_count e) (λ j b.
    ap (λ (x : ℕ). x * same_monomial (monomial_at d i) (monomial_at e j) (monomial_at (d + e) m)) (conv_cong n (h i l) (s j b) k)))

pub encrypted_with_cong : (p : Parameters) (key : Polynomial) (m : Element) (e : Polynomial) {r r' : Polynomial} → SameUpTo (monomial_count p.dr) p.n r r'
    → (i k : ℕ) → encrypted_with p key m r e i k ≡ encrypted_with p key m r' e i k
unfolding encrypted_with modulo sum_of add scale
encrypted_with_cong p key m e s i k =
    ap (λ (x : ℕ). (constant_term (degree p) m i k + x + p.l * e i k) % p.q) (product_cong p.n p.dx p.dr (λ h l j b. refl) s i k)

-- ---- the octets, element after element
coefficients_of_next : (n m : ℕ) (f : Polynomial) → coefficients_of n (m + 1) f ≡ coefficients_of n m f ++ tabulate n (f m)
unfolding coefficients_of
coefficients_of_next n m f =
    let more : (m + 1) * n ≡ m * n + n = omega arith in
    ap (λ (c : ℕ). tabulate c (λ j. f (j / n) (j % n))) more
    ∙ tabulate-add (m * n) n (λ j. f (j / n) (j % n))
    ∙ ap (λ (l : List ℕ). coefficients_of n m f ++ l) (tabulate_cong n (λ k l. rw (digits_div m l, digits_mod m l)))

take-written : (at : ℕ) (new old : List ℕ) → at + length new ≤ length old → take (at + length new) (written at new old) ≡ take at old ++ new
unfolding written
take-written at new old h =
    rw (← append_assoc (take at old) new (drop (at + length new) old))
    (take_at (take at old ++ new) (drop (at + length new) old) (at + length new)
    (length-append (take at old) new ∙ omega (arith, length-take-le at old (omega arith))))

module _ (n width : ℕ) (f : Polynomial) where
  abbrev Written : ℕ → List ℕ → Type 0
  Written m octets = take (m * n * width) octets ≡ encoded width (coefficients_of n m f)

  pub elements_none : (octets : List ℕ) → Written 0 octets
  unfolding coefficients_of tabulate encoded Rattle.definitions.specs.Sequences.joined
  elements_none octets = rw (zero-mul n, zero-mul width)

  pub elements_step : (m : ℕ) (g : Element) (old new : List ℕ) → ((k : ℕ) → k < n → g k ≡ f m k) → m * n * width + n * width ≤ length old
      → new ≡ written (m * n * width) (encoded width (tabulate n g)) old → Written m old → Written (m + 1) new
  elements_step m g old new same room e before =
      let count : length (encoded width (tabulate n g)) ≡ n * width = length-encoded width (tabulate n g) ∙ ap (λ (c : ℕ). c * width) (length-tabulate n g) in
      let next : (m + 1) * n * width ≡ m * n * width + length (encoded width (tabulate n g)) = omega arith in
      ap₂ (λ (c : ℕ) (l : List ℕ). take c l) next e
      ∙ take-written (m * n * width) (encoded width (tabulate n g)) old (omega arith)
      ∙ ap₂ (λ (x y : List ℕ). x ++ y) before (ap (encoded width) (tabulate_cong n same))
      ∙ sym (encoded-append width (coefficients_of n m f) (tabulate n (f m)))
      ∙ ap (encoded width) (sym (coefficients_of_next n m f))

-- ---- the elements of the ciphertext, by the mask in the work words
module _ (p : Parameters) (public message noise begun : List ℕ) where
  abbrev pub of_mask : Polynomial
  of_mask = encrypted_with p (polynomial_from p public) (small_of p message) (mask_in p begun) (noise_of p noise)

  abbrev pub ElementsWritten : ℕ → List ℕ → Type 0
  ElementsWritten = Written p.n (qlen p.q) of_mask

  -- the sum modulo q is the ciphertext's element
  sum_at : {work summed : List ℕ} (m : ℕ) → take (6 * p.n) work ≡ take (6 * p.n) begun → SumIs p (encrypted_sum p public message noise m) work summed
      → (k : ℕ) → k < p.n → sum_in p summed k ≡ of_mask m k
  unfolding encrypted_with modulo sum_of add scale
  sum_at m same s k l =
      s.sum k l
      ∙ ap (λ (w : List ℕ). encrypted_sum p public message noise m (λ j h. get_or w (j * p.n + h) 0) k % p.q) same
      ∙ ap (λ (x : ℕ). x % p.q) (omega arith)

  pub element_step : {work summed : List ℕ} (m : ℕ) (old new : List ℕ) → take (6 * p.n) work ≡ take (6 * p.n) begun
      → SumIs p (encrypted_sum p public message noise m) work summed → m * p.n * qlen p.q + p.n * qlen p.q ≤ length old
      → new ≡ written (m * p.n * qlen p.q) (encoded (qlen p.q) (tabulate p.n (sum_in p summed))) old
      → ElementsWritten m old → ElementsWritten (m + 1) new
  element_step {summed = summed} m old new same s = elements_step p.n (qlen p.q) of_mask m (sum_in p summed) old new (sum_at m same s)

  pub elements_end : {m : ℕ} (octets : List ℕ) → m ≡ monomial_count (degree p) → length octets ≡ ciphertext_length p
      → ElementsWritten m octets → octets ≡ octets_from p (degree p) of_mask
  unfolding ciphertext_length elements_length octets_from
  elements_end {m} octets e exact w =
      let whole : length octets ≤ m * p.n * qlen p.q = rw (e, exact) (le_refl _) in
      sym (take_all (m * p.n * qlen p.q) octets whole) ∙ w ∙ ap (λ (c : ℕ). encoded (qlen p.q) (coefficients_of p.n c of_mask)) e

pub ciphertext-room : (p : Parameters) {m width : ℕ} (octets : List ℕ) → m < monomial_count (degree p) → width ≡ qlen p.q → length octets ≡ ciphertext_length p
    → m * p.n * width + p.n * width ≤ length octets
unfolding ciphertext_length elements_length
ciphertext-room p {m} octets l w e =
    let one : suc m * p.n * qlen p.q ≤ monomial_count (degree p) * p.n * qlen p.q = mul-le-mul_right (qlen p.q) (mul-le-mul_right p.n l) in
    rw (w, e) (omega arith)

-- the lent words, as an element
pub borrowed_element : (at n : ℕ) (l : List ℕ) → at + n ≤ length l → take (at + n - at) (drop at l) ≡ tabulate n (part l at)
borrowed_element at n l h =
    let count : at + n - at ≡ n = omega arith in
    sym (tabulate-get_or (take (at + n - at) (drop at l)) 0)
    ∙ ap (λ (c : ℕ). tabulate c (λ k. get_or (take (at + n - at) (drop at l)) k 0)) (length_borrowed at n l h)
    ∙ tabulate_cong n (λ k b. get_or-take (at + n - at) (drop at l) k 0 (omega arith) ∙ get_or-drop at l k 0)

-- an element's octets, lent and written
pub element_written : (n m : ℕ) (f : Element) (old : List ℕ) {width len : ℕ} {new : List ℕ} → width ≡ len → new ≡ encoded width (tabulate n f)
    → put_mid (m * n * width) (m * n * width + n * width - m * n * width) old new ≡ written (m * n * len) (encoded len (tabulate n f)) old
element_written n m f old {width} {new = new} e h =
    put_mid_written (m * n * width) (n * width) old new
    (ap length h ∙ length-encoded width (tabulate n f) ∙ ap (λ (c : ℕ). c * width) (length-tabulate n f))
    ∙ ap₂ (λ (x : ℕ) (l : List ℕ). written (m * n * x) l old) e (h ∙ ap (λ (x : ℕ). encoded x (tabulate n f)) e)

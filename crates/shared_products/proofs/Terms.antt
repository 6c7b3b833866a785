-- What the pairs of one place add, that all of them are the product, and what preparing the list leaves.
--
--   element_prepared_lem what the copies of one element leave;  prepared_more: one element more stands in the list;  prepared_shared: what is asked follows from what was prepared
--   shared_kept, shared_after   what was asked of the work words at entry still holds after a step
--   gains_no_pair, gains_untaken, gains_both   what a pair of two places adds;  gains_square: a place with itself
--   gains_row        a row of pairs;  rows_product: all rows, from 0 on, are the product
-- Assumes nothing.
use Prim.Native.Nat.{ℕ, ◌+◌, ◌-◌, ◌*◌, ◌%◌, ◌≤◌, ◌<◌}
use native.Mathlib.Nat.{mod-lt, mul-one, mul-zero}
use native.Mathlib.Omega.{arith}
use native.Mathlib.Decide.{dec_lt}
use mathlib.Core.Path.{◌≡◌, refl, sym, ◌∙◌, ap, ap₂}
use mathlib.Core.Bool.{Bool, false, cond}
use mathlib.Core.List.{List}
use lib.ListN.{length, get_or, take}
use Rattle.definitions.specs.Sequences.{sum, tabulate}
use Rattle.definitions.specs.Parameters.{Parameters, degree, monomial_count}
use Rattle.definitions.specs.Ring.{Element, InRing, conv}
use Rattle.definitions.specs.Monomials.{Polynomial, monomial_at, same_monomial}
use Rattle.definitions.proofs.Sums.{tabulate_cong}
use Rattle.definitions.proofs.Parameters.{Accepted, accepted-set, modulus_positive, key-degree-most}
use Rattle.definitions.proofs.Congruence.{cong_refl, cong_trans, cong_of_eq, cong_mod, cong_add}
use Rattle.definitions.proofs.Ring.{conv_cong}
use Rattle.ring.specs.Work.{part, written}
use Rattle.ring.proofs.Work.{Wrote, wrote}
use Rattle.mask_products.specs.Products.{mask_in, sum_in, pair_term, first_terms, element_terms, product_term, KeyAndMask, SumIs, SumGains}
use Rattle.definitions.proofs.Monomials.{count-six}
use Rattle.mask_products.proofs.Sums.{work_words, part_room, sum_cong, sum_then, sum_in_ring, gains_none, gains_by, terms-product, key_below}
use Rattle.shared_products.specs.Sharing.{key_in, square, pair_sum, element_prepared, Prepared, PreparedKey, Shared, SharedAdding, both_terms, row_of_pairs}
use Rattle.shared_products.proofs.Pairs.{sum-square, same_monomial-comm, cong_pair}

pub element_prepared_lem : (p : Parameters) (key mask : Polynomial) (i : ℕ) (old : List ℕ) {at : ℕ} {a b : Element} {mid new : List ℕ}
    → at ≡ (monomial_count p.dx + i) * p.n
    → mid ≡ written (i * p.n) (tabulate p.n a) old → ((k : ℕ) → k < p.n → a k ≡ key i k)
    → new ≡ written at (tabulate p.n b) mid → ((k : ℕ) → k < p.n → b k ≡ square p key mask i k) → new ≡ element_prepared p key mask i old
element_prepared_lem p key mask i old {mid = mid} e first s second t =
    second
    ∙ ap₂ (λ (x : ℕ) (l : List ℕ). written x l mid) e (tabulate_cong p.n t)
    ∙ ap (written ((monomial_count p.dx + i) * p.n) (tabulate p.n (square p key mask i)))
    (first ∙ ap (λ (l : List ℕ). written (i * p.n) l old) (tabulate_cong p.n s))

pub prepared_more : {p : Parameters} {i : ℕ} {key mask : Polynomial} {old new : List ℕ} → i < monomial_count p.dx
    → 2 * (monomial_count p.dx * p.n) ≤ length old → Prepared p i key mask old → new ≡ element_prepared p key mask i old → Prepared p (i + 1) key mask new
prepared_more {p} {i} {key} {mask} {old} few room h e =
    let count : ℕ = monomial_count p.dx in
    let inside : i * p.n + p.n ≤ count * p.n = part_room p.n i count few in
    let w : Wrote (i * p.n) p.n (key i) old (written (i * p.n) (tabulate p.n (key i)) old) = wrote (omega arith) refl in
    let v = wrote (omega (arith, w.as_long)) e in
    record {
      elements = λ j l k b.
          elim (dec_lt j i) [
            | yes s ↦ let low : j * p.n + p.n ≤ i * p.n = part_room p.n j i s in
                v.before (j * p.n + k) (omega arith) ∙ w.before (j * p.n + k) (omega arith) ∙ h.elements j s k b
            | no s ↦ let last : j ≡ i = omega arith in
                rw last (v.before (i * p.n + k) (omega arith) ∙ w.inside k b)
          ];
      squares = λ j l k b.
          elim (dec_lt j i) [
            | yes s ↦ let low : j * p.n + p.n ≤ i * p.n = part_room p.n j i s in
                v.before ((count + j) * p.n + k) (omega arith) ∙ w.after ((count + j) * p.n + k) (omega arith) ∙ h.squares j s k b
            | no s ↦ let last : j ≡ i = omega arith in
                rw last (v.inside k b)
          ];
    }

-- ---- what is asked of the list and the mask
module _ {p : Parameters} {work list : List ℕ} (g : Shared p work list) where
  pub shared_set : Accepted p
  shared_set = accepted-set p g.set

  pub shared_room : length work ≡ 8 * p.n
  shared_room = work_words p work g.work-exact

  pub place-few : {i : ℕ} → i < monomial_count p.dx → i < 6
  place-few l = omega (arith, count-six p.dx (key-degree-most p shared_set))

  pub key-inside : {i : ℕ} → i < monomial_count p.dx → i * p.n + p.n ≤ length list
  key-inside {i} l = omega (arith, part_room p.n i (monomial_count p.dx) l, g.room)

  module _ {i at : ℕ} (e : at ≡ (monomial_count p.dx + i) * p.n) (l : i < monomial_count p.dx) where
    pub diagonal_inside : at + p.n ≤ length list
    diagonal_inside = omega (arith, part_room p.n i (monomial_count p.dx) l, g.room)

    pub diagonal_below : InRing p.q p.n (part list at)
    diagonal_below k b = rw (e, g.squares i l k b) (mod-lt _ (modulus_positive p shared_set))

  pub shared_kept : {new : List ℕ} → take (6 * p.n) new ≡ take (6 * p.n) work → length new ≡ length work → Shared p new list
  shared_kept same long =
      record {
        set = g.set;
        one-degree = g.one-degree;
        work-exact = long ∙ g.work-exact;
        room = g.room;
        key = g.key;
        mask = λ i l k b. rw same (g.mask i l k b);
        squares = λ i l k b.
            g.squares i l k b ∙ ap (λ (w : List ℕ). square p (key_in p list) (λ j h. get_or w (j * p.n + h) 0) i k) (sym same);
      }

  pub shared_after : {m : ℕ} {new : List ℕ} {f : Polynomial → Element} → m < monomial_count (degree p) → SumIs p f work new → SharedAdding p m new list
  shared_after l s =
      record { inputs = shared_kept s.mask s.as_long; place = l; below = sum_in_ring (modulus_positive p shared_set) s }

pub prepared_shared : {p : Parameters} {public work list : List ℕ} → KeyAndMask p public work → PreparedKey p public work list → Shared p work list
prepared_shared {p} g r =
    record {
      set = g.set;
      one-degree = r.one-degree;
      work-exact = g.work-exact;
      room = r.room;
      key = λ i l k b. rw (r.prepared.elements i l k b) (key_below g i l k b);
      mask = λ i l. g.mask i (rw (← r.one-degree) l);
      squares = λ i l k b.
          r.prepared.squares i l k b
          ∙ ap (λ (x : ℕ). x % p.q) (conv_cong p.n (λ h s. sym (r.prepared.elements i l h s)) (λ h s. refl) k);
    }

-- ---- pairs
module _ {p : Parameters} {old list : List ℕ} (g : Shared p old list) (m i j : ℕ) where
  abbrev same : ℕ → ℕ → ℕ
  same a b = same_monomial (monomial_at p.dx a) (monomial_at p.dr b) (monomial_at (degree p) m)

  turned : same j i ≡ same i j
  turned = rw g.one-degree (same_monomial-comm (monomial_at p.dr j) (monomial_at p.dr i) (monomial_at (p.dr + p.dr) m))

  pub gains_no_pair : InRing p.q p.n (sum_in p old) → same i j ≡ 0 → SumGains p (both_terms p (key_in p list) m i j) old old
  gains_no_pair below e = gains_none _ below (λ k l. rw (turned, e, mul-zero, mul-zero))

  -- the product of the sums, less the two of the diagonal
  pub gains_both : {first second : ℕ} {mid last new : List ℕ} → i < monomial_count p.dx → j < i → same i j ≡ 1
      → first ≡ (monomial_count p.dx + i) * p.n → second ≡ (monomial_count p.dx + j) * p.n
      → SumGains p (λ mask. conv p.n (pair_sum (key_in p list) i j) (pair_sum mask i j)) old mid
      → SumGains p (λ mask k. p.q - part list first k) mid last
      → SumGains p (λ mask k. p.q - part list second k) last new
      → SumGains p (both_terms p (key_in p list) m i j) old new
  gains_both {last = last} {new = new} l b one e f product less lesser =
      let key = key_in p list in
      let sums : Polynomial → Element = λ mask. conv p.n (pair_sum key i j) (pair_sum mask i j) in
      let both : SumIs p (λ mask k. sum_in p old k + sums mask k + (p.q - square p key mask i k)) old last =
      sum_then _ product.is less (λ k h. rw (e, g.squares i l k h)) in
      let all : SumIs p (λ mask k. sum_in p old k + sums mask k + (p.q - square p key mask i k) + (p.q - square p key mask j k)) old new =
      sum_then _ both lesser (λ k h. rw (f, g.squares j (omega arith) k h)) in
      record {
        is =
            sum_cong all (λ k h.
            cong_trans (cong_pair p.n p.q (modulus_positive p (shared_set g)) (key i) (key j) (mask_in p old i) (mask_in p old j) (sum_in p old k) k)
            (cong_of_eq (rw (turned, one, mul-one, mul-one))));
      }

-- a pair of another monomial, as the test says it: nothing is added
pub gains_untaken : {p : Parameters} {old list : List ℕ} {m : ℕ} (i j : ℕ) {t : Bool} → SharedAdding p m old list
    → cond t 1 0 ≡ same_monomial (monomial_at p.dx i) (monomial_at p.dr j) (monomial_at (degree p) m) → t ≡ false
    → SumGains p (both_terms p (key_in p list) m i j) old old
gains_untaken {m = m} i j g e h = gains_no_pair g.inputs m i j g.below (sym e ∙ ap (λ (u : Bool). cond u 1 0) h)

pub gains_square : {p : Parameters} {old list : List ℕ} (g : Shared p old list) (m i : ℕ) {at : ℕ} {new : List ℕ} → i < monomial_count p.dx
    → same_monomial (monomial_at p.dx i) (monomial_at p.dr i) (monomial_at (degree p) m) ≡ 1 → at ≡ (monomial_count p.dx + i) * p.n
    → SumGains p (λ mask. part list at) old new → SumGains p (pair_term p (key_in p list) m i i) old new
gains_square {p} g m i l one e s =
    record { is = sum_cong s.is (λ k h. rw (e, g.squares i l k h, one, mul-one) (cong_add cong_refl (cong_mod p.q _))) }

pub gains_row : {p : Parameters} (key : Polynomial) (m i : ℕ) {j : ℕ} {old mid new : List ℕ} → j ≡ i → SumGains p (pair_term p key m i i) old mid
    → SumGains p (first_terms j (both_terms p key m i)) mid new → SumGains p (row_of_pairs p key m i) old new
gains_row key m i e s t = record { is = sum_then _ s.is t (λ k l. rw e (omega arith)) }

pub rows_product : {p : Parameters} (key : Polynomial) (m : ℕ) {old mid new : List ℕ} → p.dx ≡ p.dr → SumIs p (λ mask k. 0) old mid
    → SumGains p (first_terms (monomial_count p.dx) (row_of_pairs p key m)) mid new → SumIs p (product_term p key m) old new
rows_product {p} key m {mid = mid} e s t =
    terms-product key m s (gains_by (first_terms (monomial_count p.dx) (element_terms p key m)) t (λ k l.
    sym (sum-square (monomial_count p.dx) (λ i j. pair_term p key m i j (mask_in p mid) k))
    ∙ ap (λ (d : ℕ). sum (monomial_count p.dx) (λ i. sum (monomial_count d) (λ j. pair_term p key m i j (mask_in p mid) k))) e))

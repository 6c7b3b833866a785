-- What the loops of Horner's rule keep: so many elements taken, each of which fits, modulo q.
--
--   sizes_kept       sizes go by the length alone;  count_most, in_octets: a place of the list is one of the octets
--   element_fits        an element that fits is the same modulo q;  decoded-fits: all coefficients fit where every element does
--   placed-written   an element was written;  Added, step_placed: what a step leaves
--   HornerAt         so many elements taken at a part;  horner_at_none: none, -next: one more, -ready: what a step asks of the words
-- Assumes nothing.
use Prim.Native.Nat.{ℕ, zero, suc, ◌+◌, ◌*◌, ◌%◌, ◌≤◌, ◌<◌}
use mathlib.Core.Path.{◌≡◌, refl, sym, ap, ◌∙◌}
use mathlib.Core.Bool.{Bool, true, ◌&&◌}
use mathlib.Core.Logic.{◌⊎◌, ⊎_elim}
use mathlib.Core.List.{List, ◌++◌}
use native.Mathlib.Nat.{mod-eq_of_lt, mod-lt, mul-le-mul_right, zero-mul}
use native.Mathlib.Numerals.{add-one}
use native.Mathlib.Omega.{arith}
use lib.ListN.{length, get_or}
use Rattle.definitions.specs.Sequences.{every, tabulate}
use Rattle.definitions.specs.Parameters.{monomial_count}
use Rattle.definitions.specs.Ring.{Element, InRing, multiply_add}
use Rattle.definitions.specs.Octets.{coefficient_at, decoded, coefficients_fit}
use Rattle.definitions.specs.Calls.{polynomial_in}
use Rattle.definitions.proofs.Sums.{length-tabulate, get_or_tabulate}
use Rattle.definitions.proofs.Filling.{tabulate-add}
use Rattle.definitions.proofs.Octets.{coefficients_fit-below}
use Rattle.definitions.proofs.Monomials.{monomial_count-le}
use Rattle.ring.specs.Work.{part, written, product_added}
use Rattle.ring.proofs.Work.{part-written, get_or-written-before, length-written-tabulate}
use Rattle.decoding.specs.Elements.{Sizes}
use Rattle.judging.proofs.Laws.{coefficients_fit_none, coefficients_fit-append}
use Rattle.values.specs.Horner.{horner, stepped, row_of, fits_at, Placed}
use Rattle.values.proofs.Horner.{horner_cong, horner-stepped}

pub sizes_kept : {n qlen : ℕ} {old now : List ℕ} → Sizes n qlen old → length now ≡ length old → Sizes n qlen now
sizes_kept s e = record { places = s.places; most = s.most; octets-least = s.octets-least; octets-most = s.octets-most; room = e ∙ s.room }

pub count_most : (d : ℕ) → d ≤ 8 → monomial_count d ≤ 45
unfolding monomial_count
count_most d l = monomial_count-le d 8 l

pub in_octets : (n qlen element count : ℕ) → element < count → element * n * qlen + n * qlen ≤ count * n * qlen
in_octets n qlen element count l =
    let h : (element + 1) * n * qlen ≤ count * n * qlen = mul-le-mul_right qlen (mul-le-mul_right n (omega arith)) in omega arith

pub row_cong : (n d : ℕ) (f : ℕ → Element) (t : ℕ) {u v : Element} → ((i : ℕ) → i < n → u i ≡ v i) → (k : ℕ) → k < n → row_of n d f u t k ≡ row_of n d f v t k
unfolding row_of
row_cong n d f t h k l = horner_cong n h (suc t) (λ c v i w. refl) k l

decoded_more : (qlen m n : ℕ) (octets : List ℕ) → decoded qlen (m + n) octets ≡ decoded qlen m octets ++ tabulate n (λ k. coefficient_at qlen octets (m + k))
unfolding decoded
decoded_more qlen m n octets = tabulate-add m n (coefficient_at qlen octets)

module _ (q n qlen : ℕ) (octets : List ℕ) where
  pub element_fits : (i : ℕ) → fits_at q n qlen octets i ≡ true → (k : ℕ) → k < n → polynomial_in n qlen octets i k ≡ polynomial_in n qlen octets i k % q
  element_fits i e k l =
      let below : get_or (tabulate n (polynomial_in n qlen octets i)) k 0 < q =
      coefficients_fit-below q (tabulate n (polynomial_in n qlen octets i)) e k (omega (arith, length-tabulate n (polynomial_in n qlen octets i))) in
      sym (mod-eq_of_lt (rw (get_or_tabulate n (polynomial_in n qlen octets i) 0 l) at below))

  pub decoded-fits : (count : ℕ) → coefficients_fit q (decoded qlen (count * n) octets) ≡ every count (fits_at q n qlen octets)
  unfolding every
  decoded-fits zero = unfold decoded tabulate in rw (zero-mul n) (coefficients_fit_none q)
  decoded-fits (suc count) =
      let e : suc count * n ≡ count * n + n = omega arith in
      rw (e, decoded_more qlen (count * n) n octets, coefficients_fit-append q (tabulate n (polynomial_in n qlen octets count)) (decoded qlen (count * n) octets))
      (ap (λ (b : Bool). b && fits_at q n qlen octets count) (decoded-fits count))

pub placed-written : {n at : ℕ} {f : Element} (old : List ℕ) {new : List ℕ} → at + n ≤ length old → new ≡ written at (tabulate n f) old → Placed n at f old new
placed-written {n} {at} {f} old room e =
    record {
      placed = λ k l. ap (λ (w : List ℕ). part w at k) e ∙ part-written at n f old (omega arith) l;
      before = λ i l. ap (λ (w : List ℕ). get_or w i 0) e ∙ get_or-written-before at (tabulate n f) old (omega arith) l;
      as_long = ap length e ∙ length-written-tabulate at n f old room;
    }

-- ---- one step

stepped_some : (n q c : ℕ) (a u x : Element) → 0 < c → (k : ℕ) → multiply_add q n a u x k ≡ stepped n q c a u x k
unfolding stepped
stepped_some n q zero a u x z k = absurd (omega (arith, z))
stepped_some n q (suc c) a u x z k = refl

stepped_none : (n q c : ℕ) (a u x : Element) → c ≤ 0 → (k : ℕ) → x k ≡ stepped n q c a u x k
unfolding stepped
stepped_none n q zero a u x z k = refl
stepped_none n q (suc c) a u x z k = absurd (omega (arith, z))

-- the words once the product, where there is one, is added
pub record Added (n q count at factor next : ℕ) (old mid : List ℕ) : Type 0 where
  pub came : ((0 < count) × (mid ≡ product_added n q at factor next old)) ⊎ ((count ≤ 0) × (mid ≡ old))

module _ {n q count at factor next : ℕ} {old mid : List ℕ} (room : next + n ≤ length old) (added : Added n q count at factor next old mid) where
  pub added-length : length mid ≡ length old
  added-length = ⊎_elim (λ w. ap length w.1 ∙ length-written-tabulate next n _ old room) (λ w. ap length w.1) added.came

  pub step_placed : {new : List ℕ} → at + n ≤ next → new ≡ written at (tabulate n (part mid next)) mid
      → Placed n at (stepped n q count (part old at) (part old factor) (part old next)) old new
  step_placed {new} apart e =
      let copied = placed-written {n = n} {at = at} {f = part mid next} mid {new = new} (omega (arith, added-length)) e in
      record {
        placed = λ k l.
            copied.placed k l
            ∙ ⊎_elim
            (λ w. (placed-written old room w.1).placed k l ∙ stepped_some n q count _ _ _ w.0 k)
            (λ w. rw w.1 (stepped_none n q count _ _ _ w.0 k))
            added.came;
        before = λ i l. copied.before i l ∙ ⊎_elim (λ w. (placed-written old room w.1).before i (omega arith)) (λ w. rw w.1) added.came;
        as_long = copied.as_long ∙ added-length;
      }

-- ---- so many steps

-- the part at `at` holds c elements, taken with the factor that stands at `factor`
pub record HornerAt (n q at factor : ℕ) (h : ℕ → Element) (fits : ℕ → Bool) (old : List ℕ) (c : ℕ) (work : List ℕ) : Type 0 where
  pub fit : every c fits ≡ true
  pub held : 0 < c → (k : ℕ) → k < n → part work at k ≡ horner n (part old factor) h c k % q
  pub before : (i : ℕ) → i < at → get_or work i 0 ≡ get_or old i 0
  pub as_long : length work ≡ length old

module _ {n q at factor : ℕ} {h : ℕ → Element} {fits : ℕ → Bool} {old : List ℕ} where
  pub horner_at_none : HornerAt n q at factor h fits old 0 old
  horner_at_none = record { fit = unfold every in refl; held = λ z. let none : ⊥ = omega arith in absurd none; before = λ i l. refl; as_long = refl }

  pub horner_at_all : {c t : ℕ} {work : List ℕ} → c ≡ suc t → HornerAt n q at factor h fits old c work
      → Placed n at (λ k. horner n (part old factor) h (suc t) k % q) old work
  horner_at_all e r = record { placed = rw e at r.held (omega arith); before = r.before; as_long = r.as_long }

  module _ {c next : ℕ} {f : Element} {work mid : List ℕ} (apart : (factor + n ≤ at) × (at + n ≤ next))
      (r : HornerAt n q at factor h fits old c work) (p : Placed n next f work mid) where
    held_on : 0 < c → (k : ℕ) → k < n → part mid at k ≡ horner n (part old factor) h c k % q
    held_on z k l = p.before (at + k) (omega (arith, apart.1)) ∙ r.held z k l

    factor_on : (k : ℕ) → k < n → part mid factor k ≡ part old factor k
    factor_on k l = p.before (factor + k) (omega (arith, apart.0, apart.1)) ∙ r.before (factor + k) (omega (arith, apart.0))

    pub horner_at_ready : 0 < q → InRing 16 n (part old factor) → ((k : ℕ) → k < n → f k ≡ h c k % q)
        → (0 < c → InRing q n (part mid at)) × InRing 16 n (part mid factor) × InRing q n (part mid next)
    horner_at_ready pos small same =
        (λ z k l. rw (held_on z k l) (mod-lt _ pos), λ k l. rw (factor_on k l) (small k l), λ k l. rw (p.placed k l ∙ same k l) (mod-lt _ pos))

    pub horner_at_next : {new : List ℕ} → fits c ≡ true → ((k : ℕ) → k < n → f k ≡ h c k % q)
        → Placed n at (stepped n q c (part mid at) (part mid factor) (part mid next)) mid new → HornerAt n q at factor h fits old (c + 1) new
    unfolding every
    horner_at_next fitting same s =
        rw (add-one c) (record {
          fit = rw (r.fit, fitting);
          held = λ z k l. s.placed k l ∙ horner-stepped n q (part old factor) h c held_on factor_on (λ i m. p.placed i m ∙ same i m) k l;
          before = λ i l. s.before i l ∙ p.before i (omega (arith, apart.1)) ∙ r.before i l;
          as_long = s.as_long ∙ p.as_long ∙ r.as_long;
        })

-- What a step does to the sum in part 7: it is added to, modulo q, and the mask in the first six parts stays. What goes by the mask alone is
-- then the same before and after a step, so that steps compose.
--
--   mask_at, mask-same   the mask's element j stands in part j;  the mask is as it was where the words of the first six parts are, and
--                    only there (word_kept);  spare_mask, spare_sum: it is where part 6 was written, and so is the sum;  borrowed_wrote: a part
--                    was lent and filled
--   sum_wrote        the sum was written;  sum_gains: an element was added in place;  sum_cong: the same sum modulo q, in another form
--   sum_then         an element was added to a sum
--   gains_none, -by  nothing was added;  gains_spare: part 6 was filled first
--   terms_none, -more    so many terms were added;  terms-product: all, from 0 on, are the product
--   inputs-kept, adding_after   what is asked of the work words at entry still holds after a step
-- Assumes nothing.
use Prim.Native.Nat.{ℕ, suc, ◌+◌, ◌-◌, ◌*◌, ◌%◌, ◌≤◌, ◌<◌}
use native.Mathlib.Nat.{mod-add-mod, mod-eq_of_lt, mod-lt, mul-le-mul_right, add-zero}
use native.Mathlib.Numerals.{add-one}
use native.Mathlib.Omega.{arith}
use mathlib.Core.Path.{◌≡◌, refl, sym, ◌∙◌, ap, subst}
use mathlib.Core.List.{List}
use lib.Arith.{digits_lt}
use lib.ListN.{length, get_or, take, length-take}
use lib.Seq.{ext_get_or, get_or-take}
use borrow.Rule.Slice.PartMut.{put_mid}
use Rattle.definitions.specs.Sequences.{sum, tabulate}
use Rattle.definitions.specs.Parameters.{Parameters, degree, qlen, monomial_count, public_length, elements_length, work_length}
use Rattle.definitions.specs.Ring.{Element, element_of, InRing}
use Rattle.definitions.specs.Monomials.{Polynomial, product_of}
use Rattle.definitions.specs.Calls.{polynomial_from, elements_fit, decoded_elements}
use Rattle.definitions.proofs.Parameters.{Accepted, accepted-set, modulus_positive, key-degree-most, mask-degree-most}
use Rattle.definitions.proofs.Sums.{tabulate-get_or}
use Rattle.definitions.proofs.Congruence.{Cong, cong_of_eq}
use Rattle.definitions.proofs.Monomials.{count-six}
use Rattle.definitions.proofs.Octets.{coefficients_fit_at}
use Rattle.ring.specs.Work.{part, written}
use Rattle.ring.proofs.Borrowed.{put_mid_written}
use Rattle.ring.proofs.Work.{Wrote, wrote}
use Rattle.mask_products.specs.Products.{mask_in, sum_in, first_terms, element_terms, product_term, KeyAndMask, Adding, SumIs, SumGains}

pub work_words : (p : Parameters) (work : List ℕ) → length work ≡ work_length p → length work ≡ 8 * p.n
unfolding work_length
work_words p work e = e

pub part_room : (n j most : ℕ) → j < most → j * n + n ≤ most * n
part_room n j most l = let h : suc j * n ≤ most * n = mul-le-mul_right n l in omega arith

module _ (p : Parameters) where
  pub mask_at : (work : List ℕ) {j k : ℕ} → j < 6 → k < p.n → mask_in p work j k ≡ part work (j * p.n) k
  mask_at work {j} {k} few l = get_or-take (6 * p.n) work (j * p.n + k) 0 (digits_lt few l)

  pub mask-same : (old new : List ℕ) → length new ≡ length old → ((i : ℕ) → i < 6 * p.n → get_or new i 0 ≡ get_or old i 0)
      → take (6 * p.n) new ≡ take (6 * p.n) old
  mask-same old new long same =
      ext_get_or 0 _ _ (simp length-take (rw long refl)) (λ i l.
      let inside : i < 6 * p.n = omega (arith, length-take (6 * p.n) new) in
      get_or-take (6 * p.n) new i 0 inside ∙ same i inside ∙ sym (get_or-take (6 * p.n) old i 0 inside))

  pub word_kept : (old new : List ℕ) {i : ℕ} → take (6 * p.n) new ≡ take (6 * p.n) old → i < 6 * p.n → get_or new i 0 ≡ get_or old i 0
  word_kept old new {i} same l =
      sym (get_or-take (6 * p.n) new i 0 l) ∙ ap (λ (w : List ℕ). get_or w i 0) same ∙ get_or-take (6 * p.n) old i 0 l

  -- part 6 was written
  pub spare_mask : {old mid : List ℕ} {a : Element} → Wrote (6 * p.n) p.n a old mid → take (6 * p.n) mid ≡ take (6 * p.n) old
  spare_mask {old} {mid} w = mask-same old mid w.as_long w.before

  pub spare_sum : {old mid : List ℕ} {a : Element} → Wrote (6 * p.n) p.n a old mid → InRing p.q p.n (sum_in p old) → InRing p.q p.n (sum_in p mid)
  spare_sum w below k l = rw (w.after (7 * p.n + k) (omega arith)) (below k l)

  pub sum_wrote : {f : Polynomial → Element} {g : Element} {old new : List ℕ} → Wrote (7 * p.n) p.n g old new
      → ((k : ℕ) → k < p.n → g k ≡ f (mask_in p old) k % p.q) → SumIs p f old new
  sum_wrote {old = old} {new = new} w h =
      record { sum = λ k l. w.inside k l ∙ h k l; mask = mask-same old new w.as_long (λ i l. w.before i (omega arith)); as_long = w.as_long }

  -- an element was added in place
  pub sum_gains : {e : Element} {old new : List ℕ} → Wrote (7 * p.n) p.n (λ k. (sum_in p old k + e k) % p.q) old new → SumGains p (λ mask. e) old new
  sum_gains w = record { is = sum_wrote w (λ k l. refl) }

-- a part that was lent and filled
pub borrowed_wrote : (at n : ℕ) (old ys : List ℕ) {new : List ℕ} → new ≡ ys → length ys ≡ n → at + n ≤ length old
    → Wrote at n (element_of ys) old (put_mid at (at + n - at) old new)
borrowed_wrote at n old ys {new} e sized room =
    wrote room
    (put_mid_written at n old new (ap length e ∙ sized)
    ∙ ap (λ (l : List ℕ). written at l old) (e ∙ sym (tabulate-get_or ys 0) ∙ ap (λ (c : ℕ). tabulate c (element_of ys)) sized))

module _ {p : Parameters} {old : List ℕ} where
  pub sum_cong : {f g : Polynomial → Element} {new : List ℕ} → SumIs p f old new
      → ((k : ℕ) → k < p.n → Cong p.q (f (mask_in p old) k) (g (mask_in p old) k)) → SumIs p g old new
  sum_cong s h = record { sum = λ k l. s.sum k l ∙ (h k l).same; mask = s.mask; as_long = s.as_long }

  pub sum_then : {f g : Polynomial → Element} (h : Polynomial → Element) {mid new : List ℕ} → SumIs p f old mid → SumGains p g mid new
      → ((k : ℕ) → k < p.n → f (mask_in p old) k + g (mask_in p old) k ≡ h (mask_in p old) k) → SumIs p h old new
  sum_then {f} {g} h {mid} s t e =
      record {
        sum = λ k l.
            t.is.sum k l
            ∙ ap (λ (w : List ℕ). (sum_in p mid k + g (λ j i. get_or w (j * p.n + i) 0) k) % p.q) s.mask
            ∙ ap (λ (x : ℕ). (x + g (mask_in p old) k) % p.q) (s.sum k l)
            ∙ mod-add-mod (f (mask_in p old) k) p.q (g (mask_in p old) k)
            ∙ ap (λ (x : ℕ). x % p.q) (e k l);
        mask = t.is.mask ∙ s.mask;
        as_long = t.is.as_long ∙ s.as_long;
      }

  pub sum_in_ring : {f : Polynomial → Element} {new : List ℕ} → 0 < p.q → SumIs p f old new → InRing p.q p.n (sum_in p new)
  sum_in_ring {f} pos s k l = subst (λ (x : ℕ). x < p.q) (sym (s.sum k l)) (mod-lt (f (mask_in p old) k) pos)

  -- nothing is added
  pub gains_none : (g : Polynomial → Element) → InRing p.q p.n (sum_in p old) → ((k : ℕ) → k < p.n → g (mask_in p old) k ≡ 0) → SumGains p g old old
  gains_none g below h =
      record {
        is =
            record {
              sum = λ k l. sym (ap (λ (x : ℕ). (sum_in p old k + x) % p.q) (h k l) ∙ rw add-zero (mod-eq_of_lt (below k l)));
              mask = refl;
              as_long = refl;
            };
      }

  pub gains_by : {f : Polynomial → Element} (g : Polynomial → Element) {new : List ℕ} → SumGains p f old new
      → ((k : ℕ) → k < p.n → f (mask_in p old) k ≡ g (mask_in p old) k) → SumGains p g old new
  gains_by g s h = record { is = sum_cong s.is (λ k l. cong_of_eq (ap (λ (x : ℕ). sum_in p old k + x) (h k l))) }

  -- part 6 is filled, and then goes into what is added
  pub gains_spare : {a : Element} {f : Polynomial → Element} (g : Polynomial → Element) {mid new : List ℕ} → Wrote (6 * p.n) p.n a old mid
      → SumGains p f mid new → ((k : ℕ) → k < p.n → f (mask_in p old) k ≡ g (mask_in p old) k) → SumGains p g old new
  gains_spare {f = f} g {mid} w s h =
      let here : SumGains p f old _ =
      record {
        is =
            record {
              sum = λ k l.
                  s.is.sum k l
                  ∙ ap (λ (x : ℕ). (x + f (mask_in p mid) k) % p.q) (w.after (7 * p.n + k) (omega arith))
                  ∙ ap (λ (m : List ℕ). (sum_in p old k + f (λ j i. get_or m (j * p.n + i) 0) k) % p.q) (spare_mask p w);
              mask = s.is.mask ∙ spare_mask p w;
              as_long = s.is.as_long ∙ w.as_long;
            };
      } in
      gains_by g here h

-- ---- one term after the other
module _ {p : Parameters} (f : ℕ → Polynomial → Element) {old : List ℕ} where
  pub terms_none : InRing p.q p.n (sum_in p old) → SumGains p (first_terms 0 f) old old
  unfolding sum
  terms_none below = gains_none _ below (λ k l. refl)

  pub terms_more : {mid new : List ℕ} (j : ℕ) → SumGains p (first_terms j f) old mid → SumGains p (f j) mid new → SumGains p (first_terms (j + 1) f) old new
  unfolding sum
  terms_more j s t = record { is = sum_then _ s.is t (λ k l. rw (add-one j) (omega arith)) }

pub terms-product : {p : Parameters} (key : Polynomial) (m : ℕ) {old mid new : List ℕ} → SumIs p (λ mask k. 0) old mid
    → SumGains p (first_terms (monomial_count p.dx) (element_terms p key m)) mid new → SumIs p (product_term p key m) old new
unfolding product_of
terms-product key m s t = sum_then _ s t (λ k l. omega arith)

-- ---- what is asked of the key and the mask
module _ {p : Parameters} {public work : List ℕ} (g : KeyAndMask p public work) where
  pub inputs-set : Accepted p
  inputs-set = accepted-set p g.set

  pub inputs-room : length work ≡ 8 * p.n
  inputs-room = work_words p work g.work-exact

  pub mask-few : {j : ℕ} → j < monomial_count p.dr → j < 6
  mask-few l = omega (arith, count-six p.dr (mask-degree-most p inputs-set))

  pub key-few : {i : ℕ} → i < monomial_count p.dx → i < 6
  key-few l = omega (arith, count-six p.dx (key-degree-most p inputs-set))

  pub key_below : (i : ℕ) → i < monomial_count p.dx → InRing p.q p.n (polynomial_from p public i)
  unfolding elements_fit decoded_elements
  key_below i l k b = coefficients_fit_at p.q (qlen p.q) (monomial_count p.dx * p.n) public g.fits (digits_lt l b)

  pub key-room : {i : ℕ} → i < monomial_count p.dx → i * p.n * qlen p.q + p.n * qlen p.q ≤ length public
  unfolding public_length elements_length
  key-room {i} l =
      let one : suc i * p.n * qlen p.q ≤ monomial_count p.dx * p.n * qlen p.q = mul-le-mul_right (qlen p.q) (mul-le-mul_right p.n l) in
      omega (arith, g.public-exact)

  pub inputs-kept : {new : List ℕ} → take (6 * p.n) new ≡ take (6 * p.n) work → length new ≡ length work → KeyAndMask p public new
  inputs-kept same long =
      record {
        set = g.set;
        public-exact = g.public-exact;
        fits = g.fits;
        work-exact = long ∙ g.work-exact;
        mask = λ j l k b. rw same (g.mask j l k b);
      }

pub adding_after : {p : Parameters} {m : ℕ} {public work new : List ℕ} {f : Polynomial → Element} → KeyAndMask p public work → m < monomial_count (degree p)
    → SumIs p f work new → Adding p m public new
adding_after g l s =
    record { inputs = inputs-kept g s.mask s.as_long; place = l; below = sum_in_ring (modulus_positive _ (inputs-set g)) s }

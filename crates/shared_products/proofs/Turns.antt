-- What multiplying two sums leaves: r_i + r_j stands in the place of r_i for a while, and taking r_j away again restores it.
--
--   sum-written      an element was written, and another added to it
--   Sums             a stands in part 6 and r_i + r_j in the place of r_i; all else that counts is as it was
--   sums_stand       how that comes about;  sums_below: both factors are below q, and so is the sum
--   sums_added       their product was added, and r_i restored
-- Assumes nothing.
use Prim.Native.Nat.{ℕ, ◌+◌, ◌-◌, ◌*◌, ◌%◌, ◌≤◌, ◌<◌}
use native.Mathlib.Nat.{mod-lt}
use native.Mathlib.Omega.{arith}
use native.Mathlib.Decide.{dec_lt}
use mathlib.Core.Path.{◌≡◌, sym, ◌∙◌, ap, ap₂, subst}
use mathlib.Core.Logic.{◌⊎◌, inl, inr, ⊎_elim}
use mathlib.Core.List.{List}
use lib.ListN.{length, get_or}
use Rattle.definitions.specs.Sequences.{tabulate}
use Rattle.definitions.specs.Parameters.{Parameters}
use Rattle.definitions.specs.Ring.{Element, InRing, conv}
use Rattle.definitions.proofs.Sums.{length-tabulate, tabulate_cong}
use Rattle.definitions.proofs.Ring.{conv_cong}
use Rattle.ring.specs.Work.{part, written, other_added}
use Rattle.ring.proofs.Work.{written-written, Wrote, wrote}
use Rattle.mask_products.specs.Products.{mask_in, sum_in, SumGains}
use Rattle.mask_products.proofs.Sums.{part_room, mask_at, mask-same, word_kept}
use Rattle.shared_products.specs.Sharing.{pair_sum}
use Rattle.shared_products.proofs.Pairs.{sum_restored}

-- an element was written, and another added to it
pub sum-written : (n q at : ℕ) (a b : Element) (old : List ℕ) {mid new : List ℕ} → at + n ≤ length old → mid ≡ written at (tabulate n a) old
    → new ≡ other_added n q b at mid → new ≡ written at (tabulate n (λ k. (a k + b k) % q)) old
sum-written n q at a b old h e s =
    let w = wrote h e in
    let long : length (tabulate n (λ k. (a k + b k) % q)) ≡ length (tabulate n a) = length-tabulate n _ ∙ sym (length-tabulate n a) in
    s
    ∙ ap₂ (λ (x y : List ℕ). written at x y) (tabulate_cong n (λ k l. ap (λ (x : ℕ). (x + b k) % q) (w.inside k l))) e
    ∙ written-written at (tabulate n (λ k. (a k + b k) % q)) (tabulate n a) old long (omega (arith, length-tabulate n a))

abbrev pub elements_added : Parameters → ℕ → ℕ → List ℕ → Element
elements_added p i j work k = (part work (i * p.n) k + part work (j * p.n) k) % p.q

pub record Sums (p : Parameters) (i j : ℕ) (a : Element) (old new : List ℕ) : Type 0 where
  pub factor : (k : ℕ) → k < p.n → part new (6 * p.n) k ≡ a k
  pub whole : (k : ℕ) → k < p.n → part new (i * p.n) k ≡ elements_added p i j old k
  pub others : (x : ℕ) → x < 6 * p.n → (x < i * p.n) ⊎ (i * p.n + p.n ≤ x) → get_or new x 0 ≡ get_or old x 0
  pub total : (k : ℕ) → k < p.n → sum_in p new k ≡ sum_in p old k
  pub as_long : length new ≡ length old

module _ {p : Parameters} {i j : ℕ} (few : i < 6) (earlier : j < i) {a : Element} {old : List ℕ} where
  pub sums_stand : {first new : List ℕ} → Wrote (6 * p.n) p.n a old first → Wrote (i * p.n) p.n (elements_added p i j first) first new → Sums p i j a old new
  sums_stand w v =
      let low = part_room p.n i 6 few in
      let far = part_room p.n j i earlier in
      record {
        factor = λ k l. v.after (6 * p.n + k) (omega arith) ∙ w.inside k l;
        whole = λ k l. v.inside k l ∙ ap₂ (λ (x y : ℕ). (x + y) % p.q) (w.before (i * p.n + k) (omega arith)) (w.before (j * p.n + k) (omega arith));
        others = λ x l o. ⊎_elim (λ (b : x < i * p.n). v.before x b) (λ (b : i * p.n + p.n ≤ x). v.after x b) o ∙ w.before x l;
        total = λ k l. v.after (7 * p.n + k) (omega arith) ∙ w.after (7 * p.n + k) (omega arith);
        as_long = v.as_long ∙ w.as_long;
      }

  pub sums_below : {mid : List ℕ} → 0 < p.q → InRing p.q p.n a → InRing p.q p.n (sum_in p old) → Sums p i j a old mid
      → InRing p.q p.n (part mid (6 * p.n)) × InRing p.q p.n (mask_in p mid i) × InRing p.q p.n (sum_in p mid)
  sums_below {mid} pos h below s =
      (λ k l. rw (s.factor k l) (h k l), λ k l. rw (mask_at p mid few l ∙ s.whole k l) (mod-lt _ pos), λ k l. rw (s.total k l) (below k l))

  module _ {mid third : List ℕ} (s : Sums p i j a old mid) (t : SumGains p (λ mask. conv p.n (part mid (6 * p.n)) (mask i)) mid third) where
    -- the elements of the pair after the product
    pub third-first : (k : ℕ) → k < p.n → part third (i * p.n) k ≡ elements_added p i j old k
    third-first k l = word_kept p mid third t.is.mask (omega (arith, part_room p.n i 6 few)) ∙ s.whole k l

    pub third-second : (k : ℕ) → k < p.n → part third (j * p.n) k ≡ part old (j * p.n) k
    third-second k l =
        let low = part_room p.n i 6 few in
        let far = part_room p.n j i earlier in
        word_kept p mid third t.is.mask (omega arith) ∙ s.others (j * p.n + k) (omega arith) (inl (omega arith))

    pub sums_added : {new : List ℕ} → InRing p.q p.n (part old (i * p.n)) → InRing p.q p.n (part old (j * p.n))
        → Wrote (i * p.n) p.n (λ k. (part third (i * p.n) k + (p.q - part third (j * p.n) k)) % p.q) third new
        → SumGains p (λ mask. conv p.n a (λ k. pair_sum mask i j k % p.q)) old new
    sums_added {new} r r' w =
        let low = part_room p.n i 6 few in
        let far = part_room p.n j i earlier in
        let back : (k : ℕ) → k < p.n → part new (i * p.n) k ≡ part old (i * p.n) k = λ k l.
        w.inside k l
        ∙ ap₂ (λ (x y : ℕ). (x + (p.q - y)) % p.q) (third-first k l) (third-second k l)
        ∙ sum_restored p.q (r k l) (r' k l) in
        let second : j < 6 = omega arith in
        record {
          is =
              record {
                sum = λ k l.
                    w.after (7 * p.n + k) (omega arith)
                    ∙ t.is.sum k l
                    ∙ ap₂ (λ (x y : ℕ). (x + y) % p.q) (s.total k l)
                    (conv_cong p.n s.factor (λ h b.
                    mask_at p mid few b ∙ s.whole h b ∙ ap₂ (λ (x y : ℕ). (x + y) % p.q) (sym (mask_at p old few b)) (sym (mask_at p old second b))) k);
                mask = mask-same p old new (w.as_long ∙ t.is.as_long ∙ s.as_long) (λ x l.
                    elim (dec_lt x (i * p.n)) [
                      | yes b ↦ w.before x b ∙ word_kept p mid third t.is.mask l ∙ s.others x l (inl b)
                      | no b ↦ elim (dec_lt x (i * p.n + p.n)) [
                        | yes c ↦ let here : x ≡ i * p.n + (x - i * p.n) = omega arith in
                            subst (λ (y : ℕ). get_or new y 0 ≡ get_or old y 0) (sym here) (back (x - i * p.n) (omega arith))
                        | no c ↦ let past : i * p.n + p.n ≤ x = omega arith in
                            w.after x past ∙ word_kept p mid third t.is.mask l ∙ s.others x l (inr past)
                      ]
                    ]);
                as_long = w.as_long ∙ t.is.as_long ∙ s.as_long;
              };
        }

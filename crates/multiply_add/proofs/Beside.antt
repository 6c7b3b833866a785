-- Three elements side by side in one list of words: where each stands, and what the result is once it is copied back.
--
--   Beside           a from 0 on, b from n on, c from 2 n on
--   beside           so after they were copied, one after the other
--   beside_rings     where the three are in R_q, so are the parts
--   copied_back      a × b + c of the parts, copied over the n words of c, is that of the three
-- Assumes nothing.
use Prim.Native.Nat.{ℕ, ◌+◌, ◌*◌, ◌≤◌, ◌<◌}
use native.Mathlib.Nat.{zero-add}
use native.Mathlib.Omega.{arith}
use mathlib.Core.Path.{◌≡◌, ◌∙◌, ap}
use mathlib.Core.List.{List}
use lib.ListN.{length, get_or}
use Rattle.definitions.specs.Sequences.{tabulate}
use Rattle.definitions.specs.Parameters.{Parameters}
use Rattle.definitions.specs.Ring.{InRing, element_of, multiply_add}
use Rattle.definitions.specs.MultiplyAdd.{multiply_add_words}
use Rattle.definitions.specs.MultiplyAddHolds.{RingElements}
use Rattle.definitions.proofs.Sums.{tabulate_cong}
use Rattle.definitions.proofs.MultiplyAdd.{multiply_add_cong}
use Rattle.ring.specs.Work.{part, written}
use Rattle.ring.proofs.Work.{written-whole, Wrote, wrote}

pub record Beside (n : ℕ) (a b c words : List ℕ) : Type 0 where
  pub first : (k : ℕ) → k < n → part words 0 k ≡ element_of a k
  pub second : (k : ℕ) → k < n → part words n k ≡ element_of b k
  pub third : (k : ℕ) → k < n → part words (2 * n) k ≡ element_of c k
  pub room : 3 * n ≤ length words

part-zero : (list : List ℕ) (k : ℕ) → part list 0 k ≡ element_of list k
part-zero list k = ap (λ (i : ℕ). get_or list i 0) (zero-add k)

module _ (p : Parameters) (a b c old : List ℕ) {one two three : List ℕ} (room : 3 * p.n ≤ length old)
    (e : one ≡ written 0 (tabulate p.n (part a 0)) old) (f : two ≡ written p.n (tabulate p.n (part b 0)) one)
    (g : three ≡ written (2 * p.n) (tabulate p.n (part c 0)) two) where
  abbrev n : ℕ
  n = p.n

  first_wrote : Wrote 0 n (part a 0) old one
  first_wrote = wrote (omega arith) e

  second_wrote : Wrote n n (part b 0) one two
  second_wrote = wrote (omega (arith, first_wrote.as_long)) f

  third_wrote : Wrote (2 * n) n (part c 0) two three
  third_wrote = wrote (omega (arith, first_wrote.as_long, second_wrote.as_long)) g

  pub beside : Beside n a b c three
  beside = record {
    first = λ k l.
        third_wrote.before (0 + k) (omega arith) ∙ second_wrote.before (0 + k) (omega arith) ∙ first_wrote.inside k l ∙ part-zero a k;
    second = λ k l. third_wrote.before (n + k) (omega arith) ∙ second_wrote.inside k l ∙ part-zero b k;
    third = λ k l. third_wrote.inside k l ∙ part-zero c k;
    room = omega (arith, first_wrote.as_long, second_wrote.as_long, third_wrote.as_long);
  }

  pub beside_rings : RingElements p a b c
      → InRing p.q n (part three 0) × InRing p.q n (part three n) × InRing p.q n (part three (2 * n))
  beside_rings r = (
    λ k l. rw (beside.first k l) (r.first.below k l),
    λ k l. rw (beside.second k l) (r.second.below k l),
    λ k l. rw (beside.third k l) (r.third.below k l),
  )

  pub copied_back : (last : List ℕ) {new : List ℕ} → length c ≡ n
      → ((k : ℕ) → k < n → part last (2 * n) k ≡ multiply_add p.q n (part three 0) (part three n) (part three (2 * n)) k)
      → new ≡ written 0 (tabulate n (part last (2 * n))) c → new ≡ multiply_add_words p a b c
  copied_back last sized holds back =
      back
      ∙ written-whole n (part last (2 * n)) c sized
      ∙ tabulate_cong n (λ k l. holds k l ∙ multiply_add_cong p.q n _ _ _ beside.first beside.second beside.third k l)

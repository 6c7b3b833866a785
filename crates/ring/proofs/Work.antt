-- What stands where after a list was written over the work words: the list inside, the old words before and after it.
--
--   WritingWords     how far a loop that writes one word a turn has come;  WritingReturns: one that writes what a call returns
--   Wrote            what a list written over the words leaves at each place
-- Assumes nothing.
use Prim.Native.Nat.{ℕ, suc, ◌+◌, ◌-◌, ◌≤◌, ◌<◌, zero-le}
use native.Mathlib.Nat.{add-zero}
use native.Mathlib.Numerals.{add-one}
use native.Mathlib.Omega.{arith}
use mathlib.Core.Path.{◌≡◌, refl, sym, ◌∙◌, ap, subst}
use mathlib.Core.Logic.{⊎_elim}
use mathlib.Core.List.{List, [], ◌∷◌, ◌++◌, append_assoc}
use borrow.Author.Count.{below_more}
use Rattle.std.proofs.lemmas.List.{get_or-set_same, get_or-set_other}
use lib.ListN.{length, get_or, take, drop, set, length-append, length-set, length-take, length-drop, take-append-drop, get_or-append}
use lib.Seq.{drop-cons, set_at, take_all, take_at, drop_at, get_or-append-add, get_or-take, get_or-drop, length-take-le}
use Rattle.definitions.specs.Sequences.{tabulate}
use Rattle.definitions.specs.Ring.{InRing}
use Rattle.definitions.proofs.Sums.{length-tabulate, get_or_tabulate, tabulate_cong, tabulate-get_or}
use Rattle.definitions.proofs.Filling.{tabulate_snoc}
use Rattle.ring.specs.Work.{part, written, ReturnsWritten, Apart}

pub length-written : (at : ℕ) (new old : List ℕ) → at + length new ≤ length old → length (written at new old) ≡ length old
unfolding written
length-written at new old h = simp (length-append, length-take, length-drop) (omega arith)

get_or_past : (p s : List ℕ) {n : ℕ} (k : ℕ) → length p ≡ n → get_or (p ++ s) (n + k) 0 ≡ get_or s k 0
get_or_past p s k e = subst (λ (n : ℕ). get_or (p ++ s) (n + k) 0 ≡ get_or s k 0) e (get_or-append-add p s k 0)

pub get_or-written : (at : ℕ) (new old : List ℕ) {k : ℕ} → at ≤ length old → k < length new → get_or (written at new old) (at + k) 0 ≡ get_or new k 0
unfolding written
get_or-written at new old {k} h l =
    get_or_past (take at old) (new ++ drop (at + length new) old) k (length-take-le at old h)
    ∙ get_or-append new (drop (at + length new) old) 0 k l

pub get_or-written-before : (at : ℕ) (new old : List ℕ) {j : ℕ} → at ≤ length old → j < at → get_or (written at new old) j 0 ≡ get_or old j 0
unfolding written
get_or-written-before at new old {j} h l =
    get_or-append (take at old) (new ++ drop (at + length new) old) 0 j (omega (arith, length-take-le at old h))
    ∙ get_or-take at old j 0 l

pub get_or-written-after : (at : ℕ) (new old : List ℕ) {j : ℕ} → at ≤ length old → at + length new ≤ j → get_or (written at new old) j 0 ≡ get_or old j 0
unfolding written
get_or-written-after at new old {j} h l =
    let m : ℕ = j - (at + length new) in
    let e : j ≡ at + (length new + m) = omega arith in
    let f : at + length new + m ≡ j = omega arith in
    ap (λ (i : ℕ). get_or (take at old ++ (new ++ drop (at + length new) old)) i 0) e
    ∙ get_or_past (take at old) (new ++ drop (at + length new) old) (length new + m) (length-take-le at old h)
    ∙ get_or_past new (drop (at + length new) old) m refl
    ∙ get_or-drop (at + length new) old m 0
    ∙ ap (λ (i : ℕ). get_or old i 0) f

pub length-written-tabulate : (at k : ℕ) (f : ℕ → ℕ) (old : List ℕ) → at + k ≤ length old → length (written at (tabulate k f) old) ≡ length old
length-written-tabulate at k f old h = length-written at (tabulate k f) old (subst (λ (m : ℕ). at + m ≤ length old) (sym (length-tabulate k f)) h)

-- a part that was not written
pub part_apart : (at from j n : ℕ) (f : ℕ → ℕ) (old : List ℕ) {k : ℕ} → j ≤ n → at + n ≤ length old → Apart at from n → k < n
    → part (written at (tabulate j f) old) from k ≡ part old from k
part_apart at from j n f old {k} g h apart l =
    let e = length-tabulate j f in
    ⊎_elim
    (λ (s : at + n ≤ from). get_or-written-after at (tabulate j f) old (omega arith) (omega arith))
    (λ (s : from + n ≤ at). get_or-written-before at (tabulate j f) old (omega arith) (omega arith))
    apart

-- ---- a loop that writes one word a turn: after k of n turns `new` is `old` with f's first k values written
pub record WritingWords (at n : ℕ) (f : ℕ → ℕ) (old : List ℕ) (k : ℕ) (new : List ℕ) : Type 0 where
  pub turns : k ≤ n
  pub room : at + n ≤ length old
  pub as_long : length new ≡ length old
  pub same : new ≡ written at (tabulate k f) old

pub writing_none : {at n : ℕ} {f : ℕ → ℕ} {old : List ℕ} → at + n ≤ length old → WritingWords at n f old 0 old
unfolding written tabulate
writing_none {at} {old = old} h = record { turns = zero-le; room = h; as_long = refl; same = rw (add-zero at) (sym (take-append-drop at old)) }

written_more : (at k : ℕ) (f : ℕ → ℕ) (old : List ℕ) {j : ℕ} → j ≡ at + k → j < length old
    → set (written at (tabulate k f) old) j (f k) ≡ written at (tabulate (k + 1) f) old
unfolding written
written_more at k f old {j} e l =
    let head : List ℕ = take at old ++ tabulate k f in
    let place : length head ≡ j = length-append (take at old) (tabulate k f) ∙ omega (arith, length-take-le at old (omega arith), length-tabulate k f) in
    let next : suc j ≡ at + (k + 1) = omega arith in
    rw (add-one k, tabulate_snoc k f, length-append (tabulate k f) (f k ∷ []), length-tabulate k f, ← e, drop-cons old j 0 l, ← append_assoc)
    (set_at head (get_or old j 0) (drop (suc j) old) (f k) j place
    ∙ simp append_assoc (ap (λ (m : ℕ). take at old ++ (tabulate k f ++ f k ∷ drop m old)) next))

module _ {at n : ℕ} {f : ℕ → ℕ} {old : List ℕ} {k : ℕ} {new : List ℕ} (w : WritingWords at n f old k new) where
  pub writing_more : {j v : ℕ} → j ≡ at + k → k < n → v ≡ f k → WritingWords at n f old (k + 1) (set new j v)
  writing_more {j} {v} e l h =
      record {
        turns = omega arith;
        room = w.room;
        as_long = length-set new j v ∙ w.as_long;
        same = rw (w.same, h) (written_more at k f old e (omega (arith, w.room)));
      }

  -- the word that the next turn writes is as it was
  pub writing_own : part new at k ≡ part old at k
  writing_own =
      ap (λ (x : List ℕ). part x at k) w.same
      ∙ get_or-written-after at (tabulate k f) old (omega (arith, w.room)) (omega (arith, length-tabulate k f))

  -- and so is every word of a part apart from that which is written
  pub writing_apart : (from : ℕ) → Apart at from n → {j : ℕ} → j < n → part new from j ≡ part old from j
  writing_apart from apart {j} l = ap (λ (x : List ℕ). part x from j) w.same ∙ part_apart at from k n f old w.turns w.room apart l

  pub writing_own_ring : {q : ℕ} → InRing q n (part old at) → k < n → part new at k < q
  writing_own_ring ring l = rw writing_own (ring k l)

  pub writing_all : n ≤ k → new ≡ written at (tabulate n f) old
  writing_all l =
      let e : k ≡ n = omega (arith, w.turns) in
      w.same ∙ ap (λ (m : ℕ). written at (tabulate m f) old) e

-- a turn that writes g of its place and of the word that stands there
pub writing_one : (g : ℕ → ℕ → ℕ) {at n k : ℕ} {old new : List ℕ} {v : ℕ} → WritingWords at n (λ j. g j (part old at j)) old k new → k < n
    → v ≡ g k (part new at k) → WritingWords at n (λ j. g j (part old at j)) old (k + 1) (set new (at + k) v)
writing_one g {k = k} w l e = writing_more w refl l (e ∙ ap (g k) (writing_own w))

-- ---- a loop that writes what a call returns: P j r says that the call of place j may return r
pub record WritingReturns (at n : ℕ) (P : ℕ → ℕ → Type 0) (old : List ℕ) (k : ℕ) (new : List ℕ) : Type 0 where
  pub writing : WritingWords at n (part new at) old k new
  pub returned : (j : ℕ) → j < k → P j (part new at j)

pub returns_none : {at n : ℕ} {P : ℕ → ℕ → Type 0} {old : List ℕ} → at + n ≤ length old → WritingReturns at n P old 0 old
returns_none h = record { writing = writing_none h; returned = λ j l. absurd (omega arith) }

written_cong : (at k : ℕ) {f g : ℕ → ℕ} (old : List ℕ) → ((j : ℕ) → j < k → f j ≡ g j) → written at (tabulate k f) old ≡ written at (tabulate k g) old
written_cong at k old h = ap (λ (l : List ℕ). written at l old) (tabulate_cong k h)

module _ {at n : ℕ} {P : ℕ → ℕ → Type 0} {old : List ℕ} {k : ℕ} {new : List ℕ} (w : WritingReturns at n P old k new) where
  pub returns_more : {r : ℕ} → k < n → P k r → WritingReturns at n P old (k + 1) (set new (at + k) r)
  returns_more {r} l p =
      record {
        writing = writing_more (record { turns = w.writing.turns; room = w.writing.room; as_long = w.writing.as_long; same = w.writing.same ∙ written_cong at k old (λ j s. sym (other j s)) })
            refl l (sym here);
        returned = below_more (λ j. P j (part (set new (at + k) r) at j)) k (λ j s. rw (other j s) (w.returned j s)) (rw here p);
      }
    where
      here : part (set new (at + k) r) at k ≡ r
      here = get_or-set_same new (at + k) r 0 (omega (arith, w.writing.room, w.writing.as_long))

      other : (j : ℕ) → j < k → part (set new (at + k) r) at j ≡ part new at j
      other j s = get_or-set_other new (at + k) (at + j) r 0 (λ e. omega arith)

  pub returns_all : n ≤ k → ReturnsWritten at n P old new
  returns_all l v tied = writing_all w.writing l ∙ written_cong at n old (λ j s. tied j _ s (w.returned j (omega arith)))

-- what may be asked of the old words of two parts may be asked of the word that a turn writes and of any word of the other part
pub asked_both : (P : ℕ → ℕ → Type 0) {at n k : ℕ} (from : ℕ) {f : ℕ → ℕ} {old new : List ℕ} → Apart at from n → WritingWords at n f old k new
    → ((i j : ℕ) → i < n → j < n → P (part old at i) (part old from j)) → k < n → {j : ℕ} → j < n → P (part new at k) (part new from j)
asked_both P from apart w h l s = rw (writing_own w, writing_apart w from apart s) (h _ _ l s)

-- a turn that writes what may be returned of its place and of the word that stands there
pub returns_one : (P : ℕ → ℕ → ℕ → Type 0) {at n k : ℕ} {old new : List ℕ} {r : ℕ} → WritingReturns at n (λ j. P j (part old at j)) old k new → k < n
    → P k (part new at k) r → WritingReturns at n (λ j. P j (part old at j)) old (k + 1) (set new (at + k) r)
returns_one P w l p = returns_more w l (rw (writing_own w.writing) at p)

-- and of the word at the same place of another part
pub returns_both : (P : ℕ → ℕ → ℕ → Type 0) {at n k : ℕ} (from : ℕ) {old new : List ℕ} {r : ℕ} → Apart at from n
    → WritingReturns at n (λ j. P (part old at j) (part old from j)) old k new → k < n
    → P (part new at k) (part new from k) r → WritingReturns at n (λ j. P (part old at j) (part old from j)) old (k + 1) (set new (at + k) r)
returns_both P from apart w l p = returns_more w l (rw (writing_own w.writing, writing_apart w.writing from apart l) at p)

-- ---- the element at an offset
pub part-written : (at n : ℕ) (f : ℕ → ℕ) (old : List ℕ) {k : ℕ} → at ≤ length old → k < n → part (written at (tabulate n f) old) at k ≡ f k
part-written at n f old {k} h l =
    get_or-written at (tabulate n f) old h (subst (λ (m : ℕ). k < m) (sym (length-tabulate n f)) l) ∙ get_or_tabulate n f 0 l

-- the words of a part
pub part_words : (at n : ℕ) (old : List ℕ) → at + n ≤ length old → take n (drop at old) ≡ tabulate n (part old at)
part_words at n old h =
    let words : List ℕ = take n (drop at old) in
    let long : length words ≡ n = simp (length-take, length-drop) (omega arith) in
    sym (tabulate-get_or words 0)
    ∙ ap (λ (m : ℕ). tabulate m (λ i. get_or words i 0)) long
    ∙ tabulate_cong n (λ k l. get_or-take n (drop at old) k 0 l ∙ get_or-drop at old k 0)

-- the words from an offset on, after they were written
pub written-part : (at n : ℕ) (f : ℕ → ℕ) (old : List ℕ) → at ≤ length old → take (at + n - at) (drop at (written at (tabulate n f) old)) ≡ tabulate n f
unfolding written
written-part at n f old h =
    let whole : at + n - at ≡ n = omega arith in
    rw (whole, drop_at (take at old) (tabulate n f ++ drop (at + length (tabulate n f)) old) at (length-take-le at old h))
    (take_at (tabulate n f) _ n (length-tabulate n f))

-- a list written over one of its length is all there is
pub written-whole : (n : ℕ) (f : ℕ → ℕ) (old : List ℕ) → length old ≡ n → written 0 (tabulate n f) old ≡ tabulate n f
written-whole n f old e =
    sym (take_all (0 + n - 0) _ (omega (arith, length-written-tabulate 0 n f old (omega arith)))) ∙ written-part 0 n f old zero-le

-- what is written over what was written
pub written-written : (at : ℕ) (new mid old : List ℕ) → length new ≡ length mid → at + length mid ≤ length old
    → written at new (written at mid old) ≡ written at new old
unfolding written
written-written at new mid old e h =
    let front : length (take at old) ≡ at = length-take-le at old (omega arith) in
    let head : List ℕ = take at old ++ mid in
    let place : length head ≡ at + length new = length-append (take at old) mid ∙ omega arith in
    let rest : List ℕ = drop (at + length mid) old in
    let tail : drop (at + length new) (take at old ++ (mid ++ rest)) ≡ rest = rw (← append_assoc (take at old) mid rest)
    (drop_at head rest (at + length new) place) in
    rw (take_at (take at old) (mid ++ rest) at front, tail, e)

-- ---- what a list written over the words leaves at each place
pub record Wrote (at n : ℕ) (f : ℕ → ℕ) (old new : List ℕ) : Type 0 where
  pub as_long : length new ≡ length old
  pub inside : (k : ℕ) → k < n → part new at k ≡ f k
  pub before : (k : ℕ) → k < at → get_or new k 0 ≡ get_or old k 0
  pub after : (k : ℕ) → at + n ≤ k → get_or new k 0 ≡ get_or old k 0

pub wrote : {at n : ℕ} {f : ℕ → ℕ} {old new : List ℕ} → at + n ≤ length old → new ≡ written at (tabulate n f) old → Wrote at n f old new
wrote {at} {n} {f} {old} {new} fit e = record {
  as_long = ap length e ∙ length-written-tabulate at n f old fit;
  inside = λ k l. ap (λ (x : List ℕ). part x at k) e ∙ part-written at n f old (omega arith) l;
  before = λ k l. ap (λ (x : List ℕ). get_or x k 0) e ∙ get_or-written-before at (tabulate n f) old (omega arith) l;
  after = λ k l. ap (λ (x : List ℕ). get_or x k 0) e ∙ get_or-written-after at (tabulate n f) old (omega arith) (omega (arith, length-tabulate n f));
}

pub inside_ring : {q at n : ℕ} {f : ℕ → ℕ} {old new : List ℕ} → Wrote at n f old new → InRing q n f → InRing q n (part new at)
inside_ring w ring k l = rw (w.inside k l) (ring k l)

-- Why the rows sum to the product: row i holds a_i × b_(k - i) at place k, the rows past the last hold nothing, and b between seven zeros and
-- seven more shows each of eight rows its own part of it.
-- Assumes nothing.
use Prim.Native.Nat.{ℕ, zero, suc, ◌+◌, ◌-◌, ◌*◌, ◌%◌, ◌/◌, ◌≤◌, ◌<◌}
use native.Mathlib.Decide.{dec_lt, dec_le, ℕ_discrete}
use native.Mathlib.Nat.{add-zero, zero-add, zero-mul, mul-zero, sub-zero, add_assoc, mul-le-mul, le_of_lt, lt_of_lt_of_le}
use native.Mathlib.Omega.{arith}
use mathlib.Core.Path.{◌≡◌, refl, sym, ◌∙◌, ap, ap₂, subst}
use mathlib.Core.List.{List, [], append-nil}
use lib.Dec.{lit<}
use borrow.Author.Tests.{lt-ltb, le-ltb, le-leb, lt-leb}
use lib.ListN.{length, get_or, replicate, take, drop, length-replicate, length-drop, drop_of_length-le}
use lib.Seq.{take_all, drop-drop, get_or-take, get_or-drop}
use borrow.Rule.Slice.PartMut.{mid_of, put_mid, mid_len}
use Rattle.definitions.specs.Sequences.{sum, tabulate, same_number}
use Rattle.definitions.specs.Ring.{Element, InRing, element_of}
use Rattle.definitions.proofs.Sums.{same_number_self, same_number-other, sum_cong, sum-append, sum-zero}
use Rattle.definitions.proofs.Sums.{sum-le, sum_const, sum_pick, sum_pick_outside, length-tabulate, tabulate_cong}
use Rattle.ring.specs.Work.{part, written}
use Rattle.ring.specs.Linear.{linear}
use Rattle.ring.proofs.Linear.{linear_cong}
use Rattle.ring.proofs.Work.{part-written, get_or-written-before, get_or-written-after}
use Rattle.rows.specs.declared.Factors.{Factors}
use Rattle.rows.specs.Rows.{padded, shifted, row_term, four_rows, eight_rows, factors_from, row_sum, Surrounded, Operands, Added, Halves}
use Rattle.rows.proofs.Bounds.{product_small, eighty_small, CutSum, cut_sum_none, cut_sum_more, cut_sum_halves}

-- ---- a polynomial followed by zeros
padded-inside : (m : ℕ) (a : Element) {i : ℕ} → i < m → padded m a i ≡ a i
unfolding padded
padded-inside m a {i} l = rw (lt-ltb i m l)

padded_outside : (m : ℕ) (a : Element) {i : ℕ} → m ≤ i → padded m a i ≡ 0
unfolding padded
padded_outside m a {i} l = rw (le-ltb i m l)

padded-below : (m : ℕ) (a : Element) {q : ℕ} → InRing q m a → 0 < q → (i : ℕ) → padded m a i < q
padded-below m a h l i =
    elim (dec_lt i m) [ yes s ↦ rw (padded-inside m a s) (h i s) | no g ↦ rw (padded_outside m a {i = i} (omega arith)) l ]

padded_pick : (m : ℕ) (b : Element) (p : ℕ) → sum m (λ j. b j * same_number j p) ≡ padded m b p
padded_pick m b p =
    elim (dec_lt p m) [
      | yes s ↦ sum_pick m b s ∙ sym (padded-inside m b s)
      | no g ↦ sum_pick_outside m b (omega arith)
          ∙ sym (padded_outside m b {i = p} (omega arith))
    ]

-- ---- the same, shifted
shifted-inside : (m : ℕ) (b : Element) {i k : ℕ} → i ≤ k → shifted m b i k ≡ padded m b (k - i)
unfolding shifted
shifted-inside m b {i} {k} l = rw (le-leb i k l)

shifted-before : (m : ℕ) (b : Element) {i k : ℕ} → k < i → shifted m b i k ≡ 0
unfolding shifted
shifted-before m b {i} {k} l = rw (lt-leb i k l)

shifted-after : (m : ℕ) (b : Element) (i : ℕ) {k : ℕ} → i + m ≤ k → shifted m b i k ≡ 0
shifted-after m b i {k} l = shifted-inside m b {i = i} {k = k} (omega arith) ∙ padded_outside m b (omega arith)

shifted-below : (m : ℕ) (b : Element) {q : ℕ} → InRing q m b → 0 < q → (i k : ℕ) → shifted m b i k < q
shifted-below m b h l i k =
    elim (dec_le i k) [ yes s ↦ rw (shifted-inside m b s) (padded-below m b h l (k - i)) | no g ↦ rw (shifted-before m b {i = i} {k = k} (omega arith)) l ]

shifted_start : (m : ℕ) (b : Element) (k : ℕ) → shifted m b 0 k ≡ padded m b k
shifted_start m b k = shifted-inside m b {i = 0} {k = k} (omega arith) ∙ ap (padded m b) (sub-zero k)

-- only how far k is from i counts
shifted_along : (m : ℕ) (b : Element) (i k j p : ℕ) → k + j ≡ p + i → shifted m b i k ≡ shifted m b j p
shifted_along m b i k j p e =
    let d : k - i ≡ p - j = omega arith in
    elim (dec_le i k) [
      | yes s ↦ shifted-inside m b s ∙ ap (padded m b) d ∙ sym (shifted-inside m b {i = j} {k = p} (omega arith))
      | no g ↦ shifted-before m b {i = i} {k = k} (omega arith) ∙ sym (shifted-before m b {i = j} {k = p} (omega arith))
    ]

same_number_along : (i j k : ℕ) → i ≤ k → same_number (i + j) k ≡ same_number j (k - i)
same_number_along i j k l =
    elim (ℕ_discrete j (k - i)) [
      | yes e ↦
          let f : i + j ≡ k = omega arith in
          rw (f, e) (same_number_self k ∙ sym (same_number_self (k - i)))
      | no g ↦ same_number-other {j = i + j} {k = k} (λ e. g (omega arith)) ∙ sym (same_number-other g)
    ]

shifted_pick : (m : ℕ) (b : Element) (i k : ℕ) → sum m (λ j. b j * same_number (i + j) k) ≡ shifted m b i k
shifted_pick m b i k =
    elim (dec_le i k) [
      | yes s ↦ sum_cong m (λ j l. rw (same_number_along i j k s)) ∙ padded_pick m b (k - i) ∙ sym (shifted-inside m b s)
      | no g ↦
          sum-zero m (λ j l. rw (same_number-other {j = i + j} {k = k} (λ e. omega arith)) (mul-zero (b j)))
          ∙ sym (shifted-before m b {i = i} {k = k} (omega arith))
    ]

shifted_cong : (m : ℕ) {b c : Element} → ((j : ℕ) → j < m → b j ≡ c j) → (i k : ℕ) → shifted m b i k ≡ shifted m c i k
shifted_cong m {b} {c} h i k = sym (shifted_pick m b i k) ∙ sum_cong m (λ j l. ap (λ (x : ℕ). x * same_number (i + j) k) (h j l)) ∙ shifted_pick m c i k

-- ---- all rows
linear_rows : (m : ℕ) (a b : Element) (k : ℕ) → linear m a b k ≡ sum m (row_term m a b k)
unfolding linear row_term
linear_rows m a b k = sum_cong m (λ i l. ap₂ (λ (x y : ℕ). x * y) (sym (padded-inside m a l)) (shifted_pick m b i k))

-- rows past the last hold nothing
row_term-past : (m : ℕ) (a b : Element) (k : ℕ) {i : ℕ} → m ≤ i → row_term m a b k i ≡ 0
unfolding row_term
row_term-past m a b k {i} h = rw (padded_outside m a h) (zero-mul (shifted m b i k))

sum_rows-past : (m : ℕ) (a b : Element) (k : ℕ) {i : ℕ} → m ≤ i → sum i (row_term m a b k) ≡ linear m a b k
sum_rows-past m a b k {i} h =
    let e : i ≡ m + (i - m) = omega arith in
    let none : sum (i - m) (λ j. row_term m a b k (m + j)) ≡ 0 = sum-zero (i - m) (λ j l. row_term-past m a b k (omega arith)) in
    ap (λ (j : ℕ). sum j (row_term m a b k)) e
    ∙ sum-append m (i - m) (row_term m a b k)
    ∙ rw none (add-zero (sum m (row_term m a b k)) ∙ sym (linear_rows m a b k))

-- some rows sum to no more than all
sum_rows-le : (m : ℕ) (a b : Element) (k i : ℕ) → sum i (row_term m a b k) ≤ linear m a b k
sum_rows-le m a b k i =
    omega (arith, sum-append i m (row_term m a b k), sum_rows-past m a b k {i = i + m} (omega arith))

sum_eight_rows : (m : ℕ) (a b : Element) (i k : ℕ) → sum (i + 8) (row_term m a b k) ≡ sum i (row_term m a b k) + eight_rows (λ s. s) m a b i k
unfolding sum four_rows
sum_eight_rows m a b i k = sum-append i 8 (row_term m a b k) ∙ simp (add-zero, zero-add, add_assoc)

-- where all sums fit a word
pub linear_small : (m q top : ℕ) (a b : Element) → m ≤ 80 → q * top ≤ 230584300921369395 → InRing q m a → InRing top m b → (k : ℕ)
    → linear m a b k < 18446744073709551616
unfolding row_term
linear_small m q top a b few l h g k =
    let bound : (i : ℕ) → i < m → row_term m a b k i ≤ q * top =
    λ i s.
    mul-le-mul (le_of_lt (padded-below m a h (omega (arith, h i s)) i)) (le_of_lt (shifted-below m b g (omega (arith, g i s)) i k))
    in
    omega (arith, linear_rows m a b k, sum-le m {g = λ i. q * top} bound, sum_const m (q * top), eighty_small few l)

-- ---- four rows and eight
row_term_none : (m : ℕ) (a b : Element) (i k : ℕ) → shifted m b i k ≡ 0 → row_term m a b k i ≡ 0
unfolding row_term
row_term_none m a b i k e = rw e (mul-zero (padded m a i))

four_rows_none : (m : ℕ) (a b : Element) (i k : ℕ) → ((j : ℕ) → i ≤ j → j ≤ i + 3 → row_term m a b k j ≡ 0) → four_rows m a b i k ≡ 0
unfolding four_rows
four_rows_none m a b i k none =
    omega (
      arith,
      none i (omega arith) (omega arith),
      none (i + 1) (omega arith) (omega arith),
      none (i + 2) (omega arith) (omega arith),
      none (i + 3) (omega arith) (omega arith),
    )

four_rows-before : (m : ℕ) (a b : Element) {i k : ℕ} → k < i → four_rows m a b i k ≡ 0
four_rows-before m a b {i} {k} l = four_rows_none m a b i k (λ j s u. row_term_none m a b j k (shifted-before m b (omega arith)))

four_rows-after : (m : ℕ) (a b : Element) (i : ℕ) {k : ℕ} → i + (m + 3) ≤ k → four_rows m a b i k ≡ 0
four_rows-after m a b i {k} l = four_rows_none m a b i k (λ j s u. row_term_none m a b j k (shifted-after m b j (omega arith)))

four_rows-past : (m : ℕ) (a b : Element) {i : ℕ} (k : ℕ) → m ≤ i → four_rows m a b i k ≡ 0
four_rows-past m a b {i} k h = four_rows_none m a b i k (λ j s u. row_term-past m a b k (omega arith))

four_rows_small : (m : ℕ) (a b : Element) → InRing 2147483648 m a → InRing 2147483648 m b → (i k : ℕ) → four_rows m a b i k < 18446744073709551616
unfolding four_rows row_term
four_rows_small m a b h g i k =
    let one : (j : ℕ) → padded m a j * shifted m b j k ≤ 4611686014132420609 =
    λ j. product_small (padded-below m a h (lit< tt) j) (shifted-below m b g (lit< tt) j k)
    in
    omega (arith, one i, one (i + 1), one (i + 2), one (i + 3))

-- what stands at each place of a list that was written over another
written_at : (at n : ℕ) (f g : ℕ → ℕ) (old : List ℕ) → at + n ≤ length old → ((k : ℕ) → k < at → get_or old k 0 ≡ g k) → ((k : ℕ) → k < n → f k ≡ g (at + k))
    → ((k : ℕ) → at + n ≤ k → get_or old k 0 ≡ g k) →
    (k : ℕ) → get_or (written at (tabulate n f) old) k 0 ≡ g k
written_at at n f g old h front inside rest k =
    let long = length-tabulate n f in
    elim (dec_lt k at) [
      | yes l ↦ get_or-written-before at (tabulate n f) old (omega arith) l ∙ front k l
      | no l ↦
          elim (dec_lt k (at + n)) [
            | yes s ↦
                let j : ℕ = k - at in
                let p : at + j ≡ k = omega arith in
                subst (λ (x : ℕ). get_or (written at (tabulate n f) old) x 0 ≡ g x) p
                (part-written at n f old {k = j} (omega arith) (omega arith) ∙ inside j (omega arith))
            | no s ↦ get_or-written-after at (tabulate n f) old (omega arith) (omega arith) ∙ rest k (omega arith)
          ]
    ]

-- what is added at the places that it reaches is added everywhere
reach_added : (f : ℕ → ℕ) (i n : ℕ) (old : List ℕ) {new : List ℕ} → i + n ≤ length old → ((k : ℕ) → k < i → f k ≡ 0) → ((k : ℕ) → i + n ≤ k → f k ≡ 0) →
    new ≡ written i (tabulate n (λ k. part old i k + f (i + k))) old →
    Added f old new
reach_added f i n old h before after e k =
    let nothing : (j : ℕ) → f j ≡ 0 → get_or old j 0 ≡ get_or old j 0 + f j = λ j x. omega arith in
    rw e (written_at i n (λ j. part old i j + f (i + j)) (λ j. get_or old j 0 + f j) old h (λ j l. nothing j (before j l)) (λ j l. refl)
    (λ j l. nothing j (after j l)) k)

pub rows_added : (g : ℕ → ℕ) → g 0 ≡ 0 → (m : ℕ) (a b : Element) (i : ℕ) (old : List ℕ) {new : List ℕ} → i + (m + 7) ≤ length old →
    new ≡ written i (tabulate (m + 7) (λ k. part old i k + eight_rows g m a b i (i + k))) old →
    Added (eight_rows g m a b i) old new
rows_added g none m a b i old h =
    reach_added (eight_rows g m a b i) i (m + 7) old h
    (λ k l. rw (four_rows-before m a b l, four_rows-before m a b {i = i + 4} {k = k} (omega arith), none))
    (λ k l. rw (four_rows-after m a b i {k = k} (omega arith), four_rows-after m a b (i + 4) {k = k} (omega arith), none))

-- where at most four rows are left, four are all
pub last_rows_added : (m : ℕ) (a b : Element) (i : ℕ) (old : List ℕ) {new : List ℕ} → m ≤ i + 4 → i + (m + 3) ≤ length old →
    new ≡ written i (tabulate (m + 3) (λ k. part old i k + four_rows m a b i (i + k))) old →
    Added (eight_rows (λ s. s) m a b i) old new
last_rows_added m a b i old few h e k =
    reach_added (four_rows m a b i) i (m + 3) old h (λ j l. four_rows-before m a b l) (λ j l. four_rows-after m a b i l) e k
    ∙ omega (arith, four_rows-past m a b k few)

-- ---- b after seven zeros and before others
four_rows-sum : (m : ℕ) (a b : Element) (row : List ℕ) → Surrounded m b row → (i h p : ℕ) → i + h ≡ p + 4
    → row_sum (factors_from m a i) row h ≡ four_rows m a b i p
unfolding row_sum factors_from four_rows row_term
four_rows-sum m a b row around i h p e =
    let at : (j r : ℕ) → r + j ≡ p + 7 → get_or row j 0 ≡ shifted m b r p = λ j r d. around j ∙ shifted_along m b 7 j r p (omega arith) in
    rw (at (h + 3) i (omega arith), at (h + 2) (i + 1) (omega arith), at (h + 1) (i + 2) (omega arith), at h (i + 3) (omega arith))

factors_below : (m : ℕ) (a : Element) {q : ℕ} → InRing q m a → 0 < q → (i : ℕ) → ((factors_from m a i).a0 < q) × ((factors_from m a i).a1 < q)
    × ((factors_from m a i).a2 < q) × ((factors_from m a i).a3 < q)
unfolding factors_from
factors_below m a h l i = (padded-below m a h l i, padded-below m a h l (i + 1), padded-below m a h l (i + 2), padded-below m a h l (i + 3))

-- what `row_sum` asks, and what it then sums
module _ {a row : List ℕ} (o : Operands a row) (i h : ℕ) {f : Factors} (e : f ≡ factors_from (length a) (element_of a) i) where
  pub row-sum_asked : h + 4 ≤ length a + 14 → ((f.a0 < 2147483648) × (f.a1 < 2147483648) × (f.a2 < 2147483648) × (f.a3 < 2147483648))
      × ((h + 4 ≤ length row) × ((j : ℕ) → get_or row j 0 < 2147483648))
  row-sum_asked l = (
    rw e (factors_below (length a) (element_of a) o.first_small (lit< tt) i),
    (omega (arith, o.room), λ j. rw (o.surrounded j) (shifted-below (length a) (part row 7) o.second_small (lit< tt) 7 j)),
  )

  pub row-sum_rows : (p : ℕ) → i + h ≡ p + 4 → {s : ℕ} → s ≡ row_sum f row h → s ≡ four_rows (length a) (element_of a) (part row 7) i p
  row-sum_rows p g d = d ∙ rw e (four_rows-sum (length a) (element_of a) (part row 7) row o.surrounded i h p g)

shifted_by : (m : ℕ) (b : Element) (i : ℕ) {k : ℕ} → k < m → shifted m b i (i + k) ≡ b k
shifted_by m b i {k} l = shifted_along m b i (i + k) 0 k (omega arith) ∙ shifted_start m b k ∙ padded-inside m b l

-- m coefficients of the words from a place on, lent as a slice
abbrev pub lent : ℕ → ℕ → List ℕ → List ℕ
lent m at words = mid_of at (at + m - at) words

module _ (m at : ℕ) (words : List ℕ) (fits : at + m ≤ length words) where
  lent_long : length (lent m at words) ≡ m
  lent_long = mid_len at (at + m) words fits ∙ omega arith

  lent_inside : (k : ℕ) → k < m → element_of (lent m at words) k ≡ part words at k
  lent_inside k l = get_or-take (at + m - at) (drop at words) k 0 (omega arith) ∙ get_or-drop at words k 0

  pub lent_surrounded : (row : List ℕ) → (let b = lent m at words in Surrounded (length b) (element_of b) row) → Surrounded m (part words at) row
  lent_surrounded row around j =
      around j ∙ ap (λ (n : ℕ). shifted n (element_of (lent m at words)) 7 j) lent_long ∙ shifted_cong m lent_inside 7 j

  -- and a polynomial that stands in a row
  module _ (b : Element) (row : List ℕ) (around : Surrounded m b row) where
    row_inside : (k : ℕ) → k < m → part row 7 k ≡ b k
    row_inside k l = around (7 + k) ∙ shifted_by m b 7 l

    pub row_operands : {q top : ℕ} → m ≤ 80 → m + 14 ≤ length row → q ≤ 2147483648 → top ≤ 2147483648
        → InRing q m (part words at) → InRing top m b → Operands (lent m at words) row
    row_operands few room x y h g =
        record {
          few = omega (arith, lent_long);
          room = omega (arith, lent_long);
          first_small = λ k l. let s : k < m = omega (arith, lent_long) in rw (lent_inside k s) (lt_of_lt_of_le (h k s) x);
          second_small = λ k l. let s : k < m = omega (arith, lent_long) in rw (row_inside k s) (lt_of_lt_of_le (g k s) y);
          surrounded =
              λ j.
              around j ∙ shifted_cong m (λ k l. sym (row_inside k l)) 7 j ∙ ap (λ (n : ℕ). shifted n (part row 7) 7 j) (sym lent_long);
        }

    pub linear-row : (k : ℕ) → (let a = lent m at words in linear (length a) (element_of a) (part row 7) k) ≡ linear m (part words at) b k
    linear-row k =
        ap (λ (n : ℕ). linear n (element_of (lent m at words)) (part row 7) k) lent_long
        ∙ linear_cong m lent_inside row_inside k

zeros_at : (n k : ℕ) → element_of (replicate n 0) k ≡ 0
zeros_at zero k = refl
zeros_at (suc n) zero = refl
zeros_at (suc n) (suc k) = zeros_at n k

pub surrounded-written : (m : ℕ) (b : Element) {row : List ℕ} → m ≤ 80 → row ≡ written 7 (tabulate m b) (replicate 96 0) → Surrounded m b row
surrounded-written m b few e j =
    rw e (written_at 7 m b (shifted m b 7) (replicate 96 0) (omega (arith, length-replicate {A = ℕ} 96 0))
    (λ k l. zeros_at 96 k ∙ sym (shifted-before m b l))
    (λ k l. sym (shifted_by m b 7 l))
    (λ k l. zeros_at 96 k ∙ sym (shifted-after m b 7 l))
    j)

-- ---- the rows so far, at every place: the loop over the rows
pub record Rows (m : ℕ) (a b : Element) (i : ℕ) (low : List ℕ) : Type 0 where
  pub turns : i < m + 8
  pub long : length low ≡ 168
  pub sums : (k : ℕ) → get_or low k 0 ≡ sum i (row_term m a b k)

zeros_long : {low : List ℕ} → low ≡ replicate 168 0 → length low ≡ 168
zeros_long e = ap length e ∙ length-replicate {A = ℕ} 168 0

pub rows_none : {m : ℕ} {a b : Element} {low : List ℕ} → low ≡ replicate 168 0 → Rows m a b 0 low
unfolding sum
rows_none e = record { turns = omega arith; long = zeros_long e; sums = λ k. rw e (zeros_at 168 k) }

module _ {m : ℕ} {a b : Element} {i : ℕ} {low : List ℕ} (r : Rows m a b i low) where
  pub rows_more : {new : List ℕ} → i < m → length new ≡ length low → Added (eight_rows (λ s. s) m a b i) low new → Rows m a b (i + 8) new
  rows_more l e d = record { turns = omega arith; long = e ∙ r.long; sums = λ k. d k ∙ rw (r.sums k) (sym (sum_eight_rows m a b i k)) }

  -- where the product fits a word, so do eight rows more
  pub rows_fit : (k : ℕ) → linear m a b k < 18446744073709551616 → get_or low k 0 + eight_rows (λ s. s) m a b i k < 18446744073709551616
  rows_fit k l = omega (arith, r.sums k, sum_eight_rows m a b i k, sum_rows-le m a b k (i + 8))

  pub rows_all : m ≤ i → (k : ℕ) → get_or low k 0 ≡ linear m a b k
  rows_all h k = r.sums k ∙ sum_rows-past m a b k h

-- ---- the same of sums that are cut
pub record CutRows (m : ℕ) (a b : Element) (i : ℕ) (low high : List ℕ) : Type 0 where
  pub turns : i < m + 8
  pub long : (length low ≡ 168) × (length high ≡ 168)
  pub sums : (k : ℕ) → CutSum i (sum i (row_term m a b k)) (get_or low k 0) (get_or high k 0)

pub cut_rows_none : {m : ℕ} {a b : Element} {low high : List ℕ} → low ≡ replicate 168 0 → high ≡ replicate 168 0 → CutRows m a b 0 low high
unfolding sum
cut_rows_none d e = record { turns = omega arith; long = (zeros_long d, zeros_long e); sums = λ k. rw (d, e, zeros_at 168 k) cut_sum_none }

module _ {m : ℕ} {a b : Element} {i : ℕ} {low high : List ℕ} (r : CutRows m a b i low high) where
  pub cut_rows_more : {low' high' : List ℕ} → i < m → (length low' ≡ length low) × (length high' ≡ length high) → InRing 2147483648 m a → InRing 2147483648 m b
      → Added (eight_rows (λ s. s % 4398046511104) m a b i) low low' → Added (eight_rows (λ s. s / 4398046511104) m a b i) high high'
      → CutRows m a b (i + 8) low' high'
  cut_rows_more l e h g d f =
      record {
        turns = omega arith;
        long = (e.0 ∙ r.long.0, e.1 ∙ r.long.1);
        sums =
            λ k.
            rw (d k, f k, sum_eight_rows m a b i k)
            (cut_sum_more (r.sums k) (four_rows_small m a b h g i k) (four_rows_small m a b h g (i + 4) k));
      }

  pub cut_rows_halves : m ≤ 80 → (k : ℕ) → Halves (sum i (row_term m a b k)) (get_or low k 0) (get_or high k 0)
  cut_rows_halves few k = cut_sum_halves (r.sums k) (omega (arith, r.turns))

  pub cut_rows_all : m ≤ 80 → m ≤ i → (k : ℕ) → Halves (linear m a b k) (get_or low k 0) (get_or high k 0)
  cut_rows_all few h k = rw (← sum_rows-past m a b k h) (cut_rows_halves few k)

-- ---- equal sums, reduced, at the front of the words from a place on, which were lent and given back
lent_written : (at : ℕ) (new old : List ℕ) → at + length new ≤ length old
    → put_mid at (length old - at) old (written 0 new (mid_of at (length old - at) old)) ≡ written at new old
unfolding written
lent_written at new old h =
    let all : take (length old - at) (drop at old) ≡ drop at old = take_all (length old - at) (drop at old) (omega (arith, length-drop at old)) in
    let none : drop (length old - at) (drop at old) ≡ [] = drop_of_length-le (drop at old) {i = length old - at} (omega (arith, length-drop at old)) in
    rw (all, none) (simp (append-nil, zero-add, drop-drop))

pub reduced_lent : (at n q : ℕ) {f g : ℕ → ℕ} (old : List ℕ) {last : List ℕ} → at + n ≤ length old → ((k : ℕ) → f k ≡ g k)
    → last ≡ written 0 (tabulate n (λ k. f k % q)) (mid_of at (length old - at) old) →
    put_mid at (length old - at) old last ≡ written at (tabulate n (λ k. g k % q)) old
reduced_lent at n q {f} {g} old h same e =
    rw e (lent_written at (tabulate n (λ k. f k % q)) old (omega (arith, length-tabulate n (λ k. f k % q))))
    ∙ ap (λ (l : List ℕ). written at l old) (tabulate_cong n (λ k l. ap (λ (x : ℕ). x % q) (same k)))

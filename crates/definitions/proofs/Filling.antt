-- Why a loop that fills a list from the front leaves what it was to leave: each store puts the next place's number behind those that stand there.
--
--   tabulate_snoc    one place more is put at the end;  tabulate-add: so many more;  tabulate_const: one number at each
--   fill_step        a store at place i, where the first i places are right
--   fill_end         a list of which every place is right
--   fill_from_step   the same after a front that is there already
--   ClearedTo        zeros from a place on;  clear_start, -step, -end: the loop that stores them
--   stores           words stored one by one from a place on;  four_stored: four of them, as code names the places;  four_read: read
--   put-..           a list with a part put into it: up to the part's end, after it, in it and before it
--   put_step         parts put at equal distances: what holds of each of them, with one part more
--   length_borrowed  how many places a lent part has
-- Assumes nothing.
use Prim.Native.Nat.{ℕ, zero, suc, ◌+◌, ◌-◌, ◌*◌, ◌≤◌, ◌<◌, zero-le, suc-le-suc}
use mathlib.Core.Path.{◌≡◌, refl, sym, ap, ap₂, ◌∙◌}
use mathlib.Core.List.{List, [], ◌∷◌, ◌++◌, append_assoc, append-nil}
use native.Mathlib.Nat.{zero-add, suc-add, suc-mul, mul-le-mul_right}
use native.Mathlib.Numerals.{add-one}
use native.Mathlib.Decide.{dec_lt}
use native.Mathlib.Omega.{arith}
use lib.ListN.{length, get_or, take, drop, set, replicate, replicate-append-replicate, length-take, length-drop, length-set, length-append, take-append-drop}
use lib.Seq.{take_all, take-suc-set, sets, sets-eq, drop-cons, length-take-le, take-append-le, take-append-add, drop-append-le, drop-append-add, drop-drop}
use lib.Seq.{take_at, drop_at}
use Rattle.definitions.specs.Sequences.{tabulate}
use Rattle.definitions.proofs.Sums.{tabulate_cong}

pub tabulate_snoc : {A : Type 0} (n : ℕ) (f : ℕ → A) → tabulate (suc n) f ≡ tabulate n f ++ (f n ∷ [])
unfolding tabulate
tabulate_snoc zero f = refl
tabulate_snoc {A} (suc n) f = ap (λ (l : List A). f zero ∷ l) (tabulate_snoc n (λ i. f (suc i)))

pub tabulate-add : {A : Type 0} (a b : ℕ) (f : ℕ → A) → tabulate (a + b) f ≡ tabulate a f ++ tabulate b (λ k. f (a + k))
unfolding tabulate
tabulate-add zero b f = rw (zero-add b) (tabulate_cong b (λ k l. ap f (sym (zero-add k))))
tabulate-add {A} (suc a) b f =
    rw (suc-add a b) (ap (λ (r : List A). f zero ∷ r)
    (tabulate-add a b (λ i. f (suc i))
    ∙ ap (λ (r : List A). tabulate a (λ i. f (suc i)) ++ r) (tabulate_cong b (λ k l. ap f (sym (suc-add a k))))))

pub tabulate_const : {A : Type 0} (n : ℕ) {f : ℕ → A} {a : A} → ((k : ℕ) → k < n → f k ≡ a) → tabulate n f ≡ replicate n a
unfolding tabulate
tabulate_const zero h = refl
tabulate_const (suc n) h = ap₂ ◌∷◌ (h 0 (suc-le-suc zero-le)) (tabulate_const n (λ k l. h (suc k) (suc-le-suc l)))

-- a store behind what stands there
store_step : (front l : List ℕ) (i x : ℕ) → i < length l → take i l ≡ front → take (i + 1) (set l i x) ≡ front ++ (x ∷ [])
store_step front l i x h e = rw (add-one i, take-suc-set l i x h, e)

module _ (f : ℕ → ℕ) (l : List ℕ) (i : ℕ) where
  pub fill_step : {x : ℕ} → i < length l → x ≡ f i → take i l ≡ tabulate i f → take (i + 1) (set l i x) ≡ tabulate (i + 1) f
  fill_step {x} h v e = store_step (tabulate i f) l i x h e ∙ rw (v, add-one i, tabulate_snoc i f)

  pub fill_end : length l ≤ i → take i l ≡ tabulate i f → l ≡ tabulate i f
  fill_end h e = sym (take_all i l h) ∙ e

module _ (front l : List ℕ) where
  pub fill_from_step : (f : ℕ → ℕ) (at k : ℕ) {x : ℕ} → at + k < length l → x ≡ f k → take (at + k) l ≡ front ++ tabulate k f
      → take (at + (k + 1)) (set l (at + k) x) ≡ front ++ tabulate (k + 1) f
  fill_from_step f at k {x} h v e =
      let next : at + (k + 1) ≡ at + k + 1 = omega arith in
      rw next (store_step (front ++ tabulate k f) l (at + k) x h e ∙ rw (v, add-one k, tabulate_snoc k f) (append_assoc front (tabulate k f) (f k ∷ [])))

-- ---- zeros

-- the places from at on, as far as i, are 0, and those before at are kept
abbrev pub ClearedTo : ℕ → List ℕ → List ℕ → ℕ → Type 0
ClearedTo at l₀ l i = (at ≤ i) × (i ≤ length l) × (length l ≡ length l₀) × (take i l ≡ take at l₀ ++ replicate (i - at) 0)

module _ (at : ℕ) (l₀ : List ℕ) where
  pub clear_start : at ≤ length l₀ → ClearedTo at l₀ l₀ at
  clear_start h = let none : at - at ≡ 0 = omega arith in (omega arith, h, refl, rw none (sym (append-nil (take at l₀))))

  pub clear_step : (l : List ℕ) (i : ℕ) → i < length l → ClearedTo at l₀ l i → ClearedTo at l₀ (set l i 0) (i + 1)
  clear_step l i h before =
      let same : length (set l i 0) ≡ length l = length-set l i 0 in
      let next : i + 1 - at ≡ i - at + 1 = omega arith in (
        omega arith,
        omega arith,
        omega arith,
        rw (next, ← replicate-append-replicate {A = ℕ} (i - at) 1 0)
            (store_step (take at l₀ ++ replicate (i - at) 0) l i 0 h before.3 ∙ append_assoc (take at l₀) (replicate (i - at) 0) (0 ∷ [])),
      )

  pub clear_end : (l : List ℕ) (i : ℕ) → length l ≤ i → ClearedTo at l₀ l i → l ≡ take at l₀ ++ replicate (length l₀ - at) 0
  clear_end l i end before =
      let last : length l₀ ≡ i = omega arith in
      rw last (sym (take_all i l end) ∙ before.3)

-- ---- a part put into a list

-- words stored one by one
pub stores : (vs l : List ℕ) (at : ℕ) {k : ℕ} → length vs ≡ k → at + k ≤ length l → sets l at vs ≡ take at l ++ (vs ++ drop (at + k) l)
stores vs l at e h = rw (← e) (sets-eq vs l at (rw e h) ∙ append_assoc (take at l) vs (drop (at + length vs) l))

-- the places as code names them
pub next_places : (at : ℕ) → (at + 1 ≡ suc at) × (at + 2 ≡ suc (suc at)) × (at + 3 ≡ suc (suc (suc at)))
next_places at = (omega arith, omega arith, omega arith)

pub four_stored : (l : List ℕ) (at p q r s : ℕ) → at + 4 ≤ length l
    → set (set (set (set l at p) (at + 1) q) (at + 2) r) (at + 3) s ≡ take at l ++ ((p ∷ q ∷ r ∷ s ∷ []) ++ drop (at + 4) l)
four_stored l at p q r s h = let n = next_places at in rw (n.0, n.1, n.2) (stores (p ∷ q ∷ r ∷ s ∷ []) l at refl h)

pub four_read : (l : List ℕ) (at : ℕ) → at + 4 ≤ length l
    → take 4 (drop at l) ≡ get_or l at 0 ∷ get_or l (at + 1) 0 ∷ get_or l (at + 2) 0 ∷ get_or l (at + 3) 0 ∷ []
four_read l at h =
    let n = next_places at in
    rw (
      n.0,
      n.1,
      n.2,
      drop-cons l at 0 (omega arith),
      drop-cons l (suc at) 0 (omega arith),
      drop-cons l (suc (suc at)) 0 (omega arith),
      drop-cons l (suc (suc (suc at))) 0 (omega arith),
    )

-- a part of a front does not depend on what stands behind the front
front-part : (l rest : List ℕ) (at i n : ℕ) → at ≤ length l → i + n ≤ at → take n (drop i (take at l ++ rest)) ≡ take n (drop i (take at l))
front-part l rest at i n room h =
    let full : length (take at l) ≡ at = length-take-le at l room in
    rw (drop-append-le i (take at l) rest (omega arith))
    (take-append-le n (drop i (take at l)) rest (omega (arith, length-drop i (take at l))))

module _ (l part : List ℕ) (at count : ℕ) (room : at ≤ length l) (len : length part ≡ count) {r : List ℕ}
    (e : r ≡ take at l ++ (part ++ drop (at + count) l))
  where
    full : length (take at l) ≡ at
    full = length-take-le at l room

    -- up to the end of the part's first k words
    pub put_front : (k : ℕ) → k ≤ count → take (at + k) r ≡ take at l ++ take k part
    put_front k h =
        rw (e, ← take-append-le k part (drop (at + count) l) (omega arith)) (rw full at (take-append-add (take at l) (part ++ drop (at + count) l) k))

    pub put_take : take (at + count) r ≡ take at l ++ part
    put_take = rw (take_all count part (omega arith)) at (put_front count (omega arith))

    pub put_drop : (k : ℕ) → drop (at + count + k) r ≡ drop (at + count + k) l
    put_drop k =
        let front : length (take at l ++ part) ≡ at + count = omega (arith, length-append (take at l) part, full) in
        rw (e, ← append_assoc (take at l) part (drop (at + count) l))
        (rw front at (drop-append-add (take at l ++ part) (drop (at + count) l) k) ∙ drop-drop k (at + count) l)

    put_here : take count (drop at r) ≡ part
    put_here = rw (e, drop_at (take at l) (part ++ drop (at + count) l) at full) (take_at part (drop (at + count) l) count len)

    put_before : (i n : ℕ) → i + n ≤ at → take n (drop i r) ≡ take n (drop i l)
    put_before i n h =
        rw e (front-part l (part ++ drop (at + count) l) at i n room h ∙ sym (front-part l (drop at l) at i n room h)
        ∙ ap (λ (k : List ℕ). take n (drop i k)) (take-append-drop at l))

-- parts put at equal distances: what holds of each of them, with one part more
pub put_step : (P : ℕ → List ℕ → Type 0) (l part : List ℕ) (size count g : ℕ) {r : List ℕ} → count ≤ size → g * size ≤ length l → length part ≡ count
    → r ≡ take (g * size) l ++ (part ++ drop (g * size + count) l) → P g part → ((h : ℕ) → h < g → P h (take count (drop (h * size) l)))
    → (h : ℕ) → h < g + 1 → P h (take count (drop (h * size) r))
put_step P l part size count g wide room len e now before h inside =
    elim (dec_lt h g) [
      | yes s ↦ let end : h * size + count ≤ g * size = omega (arith, mul-le-mul_right size s, suc-mul h size) in
          rw (put_before l part (g * size) count room len e (h * size) count end) (before h s)
      | no s ↦ let here : h ≡ g = omega arith in rw (here, put_here l part (g * size) count room len e) now
    ]

-- a part that is lent to be filled
pub length_borrowed : (at n : ℕ) (l : List ℕ) → at + n ≤ length l → length (take (at + n - at) (drop at l)) ≡ n
length_borrowed at n l h = simp (length-take, length-drop) (omega arith)

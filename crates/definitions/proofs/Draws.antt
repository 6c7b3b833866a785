-- Why random octets past the last draw do not matter, and why draws may be made part by part: draws take groups from the front, one by one.
--
--   draws-kept, draws-dropped   one candidate: it is kept where it passes, otherwise dropped
--   draws-values_pass           what is kept passes;  draws-values-length: and is as much as was asked for
--   draws-groups                the groups taken are those kept and those dropped;  draws-groups-le: they are among the groups given
--   then_drawn, draws-split      a + b draws are a draws, then b from the groups left
--   draws_first                 a single draw keeps the first candidate that passes, and drops those before it;  draws_none: without enough, all
--   draws-append                groups after enough draws change nothing;  draws_taken: the groups taken give the same without them
--   grouped-append              more octets: the same groups first;  draws-grouped-append: and the same draws, where there were enough
--   grouped-cons, grouped-short the groups one by one;  length-grouped: how many there are;  grouped_at: each
--   grouped-drop                the groups of what is left once some were taken;  grouped-take: and those of what was taken
--   draws-grouped-within        the octets taken are among those given;  draws-grouped_taken: they give the same alone
--   draws-grouped-split         further draws go on after them
--   draws_below-..               the laws for draws below q;  secret_draws-..: for the elements of a secret
--   halves_used-there, halves_used-append   the octets of u_x and u_y are among those given, and the same with more
--   keygen_answer-append ..      an accepted call answers the same with more random octets
-- Assumes nothing.
use Prim.Native.Nat.{ℕ, zero, suc, ◌+◌, ◌*◌, ◌/◌, ◌≤◌, ◌<◌}
use mathlib.Core.Path.{◌≡◌, refl, sym, ap, ap₂, ◌∙◌}
use mathlib.Core.Bool.{Bool, true, false, ◌&&◌, true≢false, false≢true}
use mathlib.Core.List.{List, [], ◌∷◌, ◌++◌}
use native.Mathlib.Numerals.{add-one}
use native.Mathlib.Nat.{div-eq-sub-div, div-eq_of_lt, zero-add, zero-mul, mul-zero, suc-add, zero-lt-suc, le_of_suc-le-suc, le_trans, div-zero, div-mul-le_self, le-div_iff_mul-le, mul-le-mul_right, mul-le-mul_left, mul-div-le, mul-div_cancel, mul_comm, suc-mul, mul-suc}
use native.Mathlib.Decide.{dec_lt}
use native.Mathlib.Omega.{arith}
use borrow.Author.Tests.{ltb-true, ltb-false, not-false, le-ltb}
use lib.Dec.{ltb}
use lib.ListN.{length, get_or, take, drop, length-append, length-drop, take-append-drop}
use lib.Seq.{length-take-le, take-append-le, drop-append-le, drop-drop}
use Rattle.definitions.specs.Sequences.{tabulate}
use Rattle.definitions.specs.Draws.{Drawn, keep, discard, draws, grouped, group_number, draws_below, octets_used, small_drawn, secret_draws, noise_drawn}
use Rattle.definitions.specs.Parameters.{Parameters, qlen, small_length, degree}
use Rattle.definitions.specs.Calls.{KeyPair, Encrypted, half_draws, halves_used, key_draws, keygen_answer, mask_draws, noise_of, encrypted_with, mask_used, encrypt_used, octets_from, encrypt_answer}
use Rattle.definitions.specs.Ring.{Element, element_of, full_degree}
use Rattle.definitions.specs.Monomials.{Polynomial, sum_of}
use Rattle.definitions.specs.Refusals.{accepted}
use Rattle.definitions.proofs.Tests.{neither_true}
use Rattle.definitions.proofs.Refusals.{first_refusal_passed, answer-accepted_only}
use Rattle.definitions.proofs.Sums.{length-tabulate, get_or_tabulate, tabulate_cong}
use Rattle.definitions.proofs.Octets.{AllBelow, octets_from_cong}

-- ---- one candidate

module _ {A : Type 0} (passes : A → Bool) where
  pub draws-kept : (count : ℕ) (x : A) (xs : List A) → passes x ≡ true → draws passes (suc count) (x ∷ xs) ≡ keep x (draws passes count xs)
  unfolding draws
  draws-kept count x xs h = rw h

  pub draws-dropped : (count : ℕ) (x : A) (xs : List A) → passes x ≡ false → draws passes (suc count) (x ∷ xs) ≡ discard (draws passes (suc count) xs)
  unfolding draws
  draws-dropped count x xs h = rw h

  -- a statement that holds either way holds of the draws
  draws_either : (P : Drawn A → Type 0) (count : ℕ) (x : A) (xs : List A) → (passes x ≡ true → P (keep x (draws passes count xs)))
      → (passes x ≡ false → P (discard (draws passes (suc count) xs))) → P (draws passes (suc count) (x ∷ xs))
  draws_either P count x xs one other = go (passes x) refl
    where
      go : (t : Bool) → passes x ≡ t → P (draws passes (suc count) (x ∷ xs))
      go true e = rw (draws-kept count x xs e) (one e)
      go false e = rw (draws-dropped count x xs e) (other e)

  -- ---- what is drawn

  pub draws-values_pass : (count : ℕ) (xs : List A) (d : A) (k : ℕ) → k < length (draws passes count xs).values
      → passes (get_or (draws passes count xs).values k d) ≡ true
  unfolding draws
  draws-values_pass zero xs d k = λ l. let z : ⊥ = omega arith in absurd z
  draws-values_pass (suc count) [] d k = λ l. let z : ⊥ = omega arith in absurd z
  draws-values_pass (suc count) (x ∷ xs) d zero =
      draws_either (λ r. 0 < length r.values → passes (get_or r.values 0 d) ≡ true) count x xs
      (λ h l. h) (λ h. draws-values_pass (suc count) xs d zero)
  draws-values_pass (suc count) (x ∷ xs) d (suc k) =
      draws_either (λ r. suc k < length r.values → passes (get_or r.values (suc k) d) ≡ true) count x xs
      (λ h l. draws-values_pass count xs d k (le_of_suc-le-suc l)) (λ h. draws-values_pass (suc count) xs d (suc k))

  pub draws-values-length : (count : ℕ) (xs : List A) → (draws passes count xs).enough ≡ true → length (draws passes count xs).values ≡ count
  unfolding draws
  draws-values-length zero xs = λ e. refl
  draws-values-length (suc count) [] = λ e. cc
  draws-values-length (suc count) (x ∷ xs) =
      draws_either (λ d. d.enough ≡ true → length d.values ≡ suc count) count x xs
      (λ h e. ap suc (draws-values-length count xs e)) (λ h. draws-values-length (suc count) xs)

  pub draws-groups : (count : ℕ) (xs : List A) → (draws passes count xs).enough ≡ true → (draws passes count xs).groups ≡ count + (draws passes count xs).dropped
  unfolding draws
  draws-groups zero xs = λ e. refl
  draws-groups (suc count) [] = λ e. cc
  draws-groups (suc count) (x ∷ xs) =
      draws_either (λ d. d.enough ≡ true → d.groups ≡ suc count + d.dropped) count x xs
      (λ h e. omega (arith, draws-groups count xs e)) (λ h e. omega (arith, draws-groups (suc count) xs e))

  pub draws-groups-le : (count : ℕ) (xs : List A) → (draws passes count xs).groups ≤ length xs
  unfolding draws
  draws-groups-le zero xs = omega arith
  draws-groups-le (suc count) [] = omega arith
  draws-groups-le (suc count) (x ∷ xs) =
      draws_either (λ d. d.groups ≤ suc (length xs)) count x xs
      (λ h. omega (arith, draws-groups-le count xs)) (λ h. omega (arith, draws-groups-le (suc count) xs))

  -- a single draw: the candidate that it keeps stands behind as many as it drops
  pub record First (d : A) (xs : List A) (drawn : Drawn A) : Type 0 where
    pub within : drawn.dropped < length xs
    pub value : drawn.values ≡ get_or xs drawn.dropped d ∷ []
    pub kept : passes (get_or xs drawn.dropped d) ≡ true
    pub dropped-before : (i : ℕ) → i < drawn.dropped → passes (get_or xs i d) ≡ false

  first_discarded : (d x : A) (xs : List A) (drawn : Drawn A) → passes x ≡ false → First d xs drawn → First d (x ∷ xs) (discard drawn)
  first_discarded d x xs drawn h f =
      record {
        within = omega (arith, f.within);
        value = f.value;
        kept = f.kept;
        dropped-before = earlier;
      }
    where
      earlier : (i : ℕ) → i < suc drawn.dropped → passes (get_or (x ∷ xs) i d) ≡ false
      earlier zero l = h
      earlier (suc i) l = f.dropped-before i (le_of_suc-le-suc l)

  pub draws_first : (d : A) (xs : List A) → (draws passes 1 xs).enough ≡ true → First d xs (draws passes 1 xs)
  unfolding draws
  draws_first d [] = λ e. absurd (false≢true e)
  draws_first d (x ∷ xs) =
      draws_either (λ r. r.enough ≡ true → First d (x ∷ xs) r) 0 x xs
      (λ h e. record { within = omega arith; value = refl; kept = h; dropped-before = λ i l. let z : ⊥ = omega arith in absurd z })
      (λ h e. first_discarded d x xs (draws passes 1 xs) h (draws_first d xs e))

  -- a single draw without enough: no candidate passes
  pub record None (d : A) (xs : List A) (drawn : Drawn A) : Type 0 where
    pub nothing : drawn.values ≡ []
    pub all_dropped : drawn.dropped ≡ length xs
    pub none_pass : (i : ℕ) → i < length xs → passes (get_or xs i d) ≡ false

  none_discarded : (d x : A) (xs : List A) (drawn : Drawn A) → passes x ≡ false → None d xs drawn → None d (x ∷ xs) (discard drawn)
  none_discarded d x xs drawn h f =
      record {
        nothing = f.nothing;
        all_dropped = ap suc f.all_dropped;
        none_pass = each;
      }
    where
      each : (i : ℕ) → i < suc (length xs) → passes (get_or (x ∷ xs) i d) ≡ false
      each zero l = h
      each (suc i) l = f.none_pass i (le_of_suc-le-suc l)

  pub draws_none : (d : A) (xs : List A) → (draws passes 1 xs).enough ≡ false → None d xs (draws passes 1 xs)
  unfolding draws
  draws_none d [] = λ e. record { nothing = refl; all_dropped = refl; none_pass = λ i l. let z : ⊥ = omega arith in absurd z }
  draws_none d (x ∷ xs) =
      draws_either (λ r. r.enough ≡ false → None d (x ∷ xs) r) 0 x xs
      (λ h e. absurd (true≢false e))
      (λ h e. none_discarded d x xs (draws passes 1 xs) h (draws_none d xs e))

  -- ---- groups that go on, and draws part by part

  pub draws-append : (count : ℕ) (xs ys : List A) → (draws passes count xs).enough ≡ true → draws passes count (xs ++ ys) ≡ draws passes count xs
  unfolding draws
  draws-append zero xs ys = λ e. refl
  draws-append (suc count) [] ys = λ e. cc
  draws-append (suc count) (x ∷ xs) ys =
      draws_either (λ d. d.enough ≡ true → draws passes (suc count) (x ∷ (xs ++ ys)) ≡ d) count x xs
      (λ h e. draws-kept count x (xs ++ ys) h ∙ ap (keep x) (draws-append count xs ys e))
      (λ h e. draws-dropped count x (xs ++ ys) h ∙ ap discard (draws-append (suc count) xs ys e))

  -- the groups taken give the same alone
  pub draws_taken : (count : ℕ) (xs : List A) → draws passes count (take (draws passes count xs).groups xs) ≡ draws passes count xs
  unfolding draws
  draws_taken zero xs = refl
  draws_taken (suc count) [] = refl
  draws_taken (suc count) (x ∷ xs) =
      draws_either (λ d. draws passes (suc count) (take d.groups (x ∷ xs)) ≡ d) count x xs
      (λ h. draws-kept count x (take (draws passes count xs).groups xs) h ∙ ap (keep x) (draws_taken count xs))
      (λ h. draws-dropped count x (take (draws passes (suc count) xs).groups xs) h ∙ ap discard (draws_taken (suc count) xs))

abbrev pub then_drawn : {A : Type 0} → Drawn A → Drawn A → Drawn A
then_drawn d e = record { values = d.values ++ e.values; groups = d.groups + e.groups; dropped = d.dropped + e.dropped; enough = d.enough && e.enough }

then_drawn_keep : {A : Type 0} (x : A) (d e : Drawn A) → keep x (then_drawn d e) ≡ then_drawn (keep x d) e
then_drawn_keep x d e = rw (suc-add d.groups e.groups)

then_drawn_discard : {A : Type 0} (d e : Drawn A) → discard (then_drawn d e) ≡ then_drawn (discard d) e
then_drawn_discard d e = rw (suc-add d.groups e.groups, suc-add d.dropped e.dropped)

module _ {A : Type 0} (passes : A → Bool) where
  pub draws-split : (a b : ℕ) (xs : List A) → draws passes (a + b) xs ≡ then_drawn (draws passes a xs) (draws passes b (drop (draws passes a xs).groups xs))
  unfolding draws
  draws-split zero b xs = rw (zero-add b, zero-add (draws passes b xs).groups, zero-add (draws passes b xs).dropped)
  draws-split (suc a) zero [] = rw (suc-add a zero)
  draws-split (suc a) (suc b) [] = rw (suc-add a (suc b))
  draws-split (suc a) b (x ∷ xs) =
      draws_either passes (λ d. draws passes (suc a + b) (x ∷ xs) ≡ then_drawn d (draws passes b (drop d.groups (x ∷ xs)))) a x xs
      (λ h. rw (suc-add a b) (draws-kept passes (a + b) x xs h ∙ ap (keep x) (draws-split a b xs) ∙ then_drawn_keep x (draws passes a xs) _))
      (λ h. rw (suc-add a b)
      (draws-dropped passes (a + b) x xs h ∙ ap discard (rw (suc-add a b) at (draws-split (suc a) b xs)) ∙ then_drawn_discard (draws passes (suc a) xs) _))

-- ---- more octets

take-tabulate : {A : Type 0} (a c : ℕ) (f : ℕ → A) → a ≤ c → take a (tabulate c f) ≡ tabulate a f
unfolding tabulate
take-tabulate zero c f h = refl
take-tabulate (suc a) zero f h = let z : ⊥ = omega arith in absurd z
take-tabulate (suc a) (suc c) f h = ap (λ (r : List _). f 0 ∷ r) (take-tabulate a c (λ i. f (suc i)) (le_of_suc-le-suc h))

div-le-div : (k : ℕ) {m n : ℕ} → m ≤ n → m / k ≤ n / k
div-le-div zero {m} {n} h = rw (div-zero m, div-zero n) (omega arith)
div-le-div (suc k) {m} h = (le-div_iff_mul-le (zero-lt-suc k)).1 (le_trans (div-mul-le_self m (suc k)) h)

take-append-drop-le : (a k : ℕ) (random more : List ℕ) → k + a ≤ length random → take a (drop k (random ++ more)) ≡ take a (drop k random)
take-append-drop-le a k random more h =
    let start : k ≤ length random = omega arith in
    let full : a ≤ length (drop k random) = omega (arith, length-drop k random) in
    rw (drop-append-le k random more start, take-append-le a (drop k random) more full)

module _ {A : Type 0} (len : ℕ) (read : List ℕ → A) where
  pub length-grouped : (random : List ℕ) → length (grouped len read random) ≡ length random / len
  unfolding grouped
  length-grouped random = length-tabulate (length random / len) _

  pub grouped_at : (random : List ℕ) (d : A) (i : ℕ) → i < length (grouped len read random)
      → get_or (grouped len read random) i d ≡ read (take len (drop (i * len) random))
  unfolding grouped
  grouped_at random d i l = get_or_tabulate (length random / len) (λ j. read (take len (drop (j * len) random))) d (rw length-tabulate at l)

  -- the groups of the octets given come first
  pub grouped-append : (random more : List ℕ) → take (length random / len) (grouped len read (random ++ more)) ≡ grouped len read random
  unfolding grouped
  grouped-append random more =
      let longer : length random / len ≤ length (random ++ more) / len = div-le-div len (omega (arith, length-append random more)) in
      take-tabulate (length random / len) (length (random ++ more) / len) _ longer
      ∙ tabulate_cong (length random / len) (λ i l. ap read (take-append-drop-le len (i * len) random more
      (omega (arith, suc-mul i len, mul-le-mul_right len l, div-mul-le_self (length random) len))))

  pub draws-grouped-append : (passes : A → Bool) (count : ℕ) (random more : List ℕ) → (draws passes count (grouped len read random)).enough ≡ true
      → draws passes count (grouped len read (random ++ more)) ≡ draws passes count (grouped len read random)
  draws-grouped-append passes count random more e =
      let all : List A = grouped len read (random ++ more) in
      let split : grouped len read random ++ drop (length random / len) all ≡ all
      = rw (grouped-append random more) at (take-append-drop (length random / len) all) in
      ap (draws passes count) (sym split) ∙ draws-append passes count (grouped len read random) _ e

  -- the groups of what was taken
  pub grouped-take : (k : ℕ) (random : List ℕ) → 0 < len → len * k ≤ length random
      → grouped len read (take (len * k) random) ≡ take k (grouped len read random)
  grouped-take k random pos h =
      let many : length (take (len * k) random) / len ≡ k
      = ap (λ (m : ℕ). m / len) (length-take-le (len * k) random h ∙ mul_comm len k) ∙ mul-div_cancel k pos in
      sym (grouped-append (take (len * k) random) (drop (len * k) random))
      ∙ ap₂ (λ (m : ℕ) (octets : List ℕ). take m (grouped len read octets)) many (take-append-drop (len * k) random)

  -- ---- the groups of octets, one by one

  pub grouped-cons : (random : List ℕ) → 0 < len → len ≤ length random
      → grouped len read random ≡ read (take len random) ∷ grouped len read (drop len random)
  unfolding grouped tabulate
  grouped-cons random pos h =
      let groups : length random / len ≡ suc (length (drop len random) / len)
      = div-eq-sub-div pos h ∙ add-one _ ∙ ap (λ (x : ℕ). suc (x / len)) (sym (length-drop len random)) in
      rw groups (ap₂ ◌∷◌ (rw (zero-mul len))
      (tabulate_cong (length (drop len random) / len) (λ i l. ap (λ (r : List ℕ). read (take len r))
      (let next : suc i * len ≡ len + i * len = omega (arith, suc-mul i len) in rw next (sym (drop-drop (i * len) len random))))))

  -- an incomplete group is none
  pub grouped-short : (random : List ℕ) → length random < len → grouped len read random ≡ []
  unfolding grouped tabulate
  grouped-short random h = rw (div-eq_of_lt h)

grouped_empty : {A : Type 0} (read : List ℕ → A) (random : List ℕ) → grouped 0 read random ≡ []
unfolding grouped tabulate
grouped_empty read random = rw (div-zero (length random))

-- the groups of what is left once so many were taken
pub grouped-drop : {A : Type 0} (len : ℕ) (read : List ℕ → A) (k : ℕ) (random : List ℕ) → grouped len read (drop (len * k) random) ≡ drop k (grouped len read random)
grouped-drop len read zero random = rw (mul-zero len)
grouped-drop zero read (suc k) random = grouped_empty read _ ∙ sym (ap (drop (suc k)) (grouped_empty read random))
grouped-drop (suc m) read (suc k) random =
    let len : ℕ = suc m in
    let next : len * suc k ≡ len + len * k = omega (arith, mul-suc len k) in
    let left : drop (len * suc k) random ≡ drop (len * k) (drop len random) = rw next (sym (drop-drop (len * k) len random)) in
    elim (dec_lt (length random) len) [
      | yes short ↦
          let ended : length (drop (len * suc k) random) < len = omega (arith, length-drop (len * suc k) random) in
          grouped-short len read _ ended ∙ sym (ap (drop (suc k)) (grouped-short len read random short))
      | no g ↦
          ap (grouped len read) left ∙ grouped-drop len read k (drop len random)
          ∙ sym (ap (drop (suc k)) (grouped-cons len read random (zero-lt-suc m) (omega arith)))
    ]

module _ {A : Type 0} (len : ℕ) (read : List ℕ → A) (passes : A → Bool) (count : ℕ) (random : List ℕ) where
  -- the draws from the groups of octets
  abbrev drawn : Drawn A
  drawn = draws passes count (grouped len read random)

  -- the groups taken are there
  pub draws-grouped-within : len * drawn.groups ≤ length random
  draws-grouped-within =
      let taken : drawn.groups ≤ length random / len = rw (length-grouped len read random) at (draws-groups-le passes count (grouped len read random)) in
      le_trans (mul-le-mul_left len taken) (mul-div-le (length random) len)

  -- they give the same alone
  pub draws-grouped_taken : 0 < len → draws passes count (grouped len read (take (len * drawn.groups) random)) ≡ drawn
  draws-grouped_taken pos =
      ap (draws passes count) (grouped-take len read drawn.groups random pos draws-grouped-within)
      ∙ draws_taken passes count (grouped len read random)

  -- and further draws go on after them
  pub draws-grouped-split : (more : ℕ)
      → draws passes (count + more) (grouped len read random) ≡ then_drawn drawn (draws passes more (grouped len read (drop (len * drawn.groups) random)))
  draws-grouped-split more =
      draws-split passes count more (grouped len read random)
      ∙ ap (λ (g : List A). then_drawn drawn (draws passes more g)) (sym (grouped-drop len read drawn.groups random))

-- ---- draws below q

module _ (q count : ℕ) (random : List ℕ) where
  pub draws_below-values : AllBelow q (draws_below q count random).values
  unfolding draws_below
  draws_below-values k l = ltb-true _ q (draws-values_pass (λ x. ltb x q) count (grouped (qlen q) (group_number q) random) 0 k l)

  pub draws_below-length : (draws_below q count random).enough ≡ true → length (draws_below q count random).values ≡ count
  unfolding draws_below
  draws_below-length = draws-values-length (λ x. ltb x q) count _

  pub draws_below-groups : (draws_below q count random).enough ≡ true → (draws_below q count random).groups ≡ count + (draws_below q count random).dropped
  unfolding draws_below
  draws_below-groups = draws-groups (λ x. ltb x q) count _

  pub draws_below-within : octets_used q (draws_below q count random) ≤ length random
  unfolding draws_below
  draws_below-within = draws-grouped-within (qlen q) (group_number q) (λ x. ltb x q) count random

  pub draws_below-split : (more : ℕ)
      → draws_below q (count + more) random
      ≡ then_drawn (draws_below q count random) (draws_below q more (drop (octets_used q (draws_below q count random)) random))
  unfolding draws_below
  draws_below-split = draws-grouped-split (qlen q) (group_number q) (λ x. ltb x q) count random

  pub draws_below-append : (more : List ℕ) → (draws_below q count random).enough ≡ true → draws_below q count (random ++ more) ≡ draws_below q count random
  unfolding draws_below
  draws_below-append = draws-grouped-append (qlen q) (group_number q) (λ x. ltb x q) count random

  pub draws_below_taken : 0 < qlen q → draws_below q count (take (octets_used q (draws_below q count random)) random) ≡ draws_below q count random
  unfolding draws_below
  draws_below_taken = draws-grouped_taken (qlen q) (group_number q) (λ x. ltb x q) count random

-- ---- the elements of a secret

module _ (p : Parameters) (count : ℕ) (random : List ℕ) where
  abbrev full : List ℕ → Bool
  full u = full_degree p.n (element_of u)

  pub secret_draws-groups : (secret_draws p count random).enough ≡ true → (secret_draws p count random).groups ≡ count + (secret_draws p count random).dropped
  unfolding secret_draws
  secret_draws-groups = draws-groups full count _

  pub secret_draws-full : (k : ℕ) → k < length (secret_draws p count random).values → full (get_or (secret_draws p count random).values k []) ≡ true
  unfolding secret_draws
  secret_draws-full k l = draws-values_pass full count (grouped (small_length p) (small_drawn p) random) [] k l

  pub secret_draws-length : (secret_draws p count random).enough ≡ true → length (secret_draws p count random).values ≡ count
  unfolding secret_draws
  secret_draws-length = draws-values-length full count _

  pub secret_draws-within : small_length p * (secret_draws p count random).groups ≤ length random
  unfolding secret_draws
  secret_draws-within = draws-grouped-within (small_length p) (small_drawn p) full count random

  pub secret_draws-split : (more : ℕ)
      → secret_draws p (count + more) random
      ≡ then_drawn (secret_draws p count random) (secret_draws p more (drop (small_length p * (secret_draws p count random).groups) random))
  unfolding secret_draws
  secret_draws-split = draws-grouped-split (small_length p) (small_drawn p) full count random

  pub secret_draws-append : (more : List ℕ) → (secret_draws p count random).enough ≡ true → secret_draws p count (random ++ more) ≡ secret_draws p count random
  unfolding secret_draws
  secret_draws-append = draws-grouped-append (small_length p) (small_drawn p) full count random

  pub secret_draws_taken : 0 < small_length p
      → secret_draws p count (take (small_length p * (secret_draws p count random).groups) random) ≡ secret_draws p count random
  unfolding secret_draws
  secret_draws_taken = draws-grouped_taken (small_length p) (small_drawn p) full count random

-- ---- the calls that draw

pub halves_used-there : (p : Parameters) (random : List ℕ) → halves_used p random ≤ length random
unfolding halves_used
halves_used-there p random = secret_draws-within p 2 random

module _ (p : Parameters) (random more : List ℕ) where
  pub noise_drawn-append : (k : ℕ) → k + small_length p ≤ length random
      → noise_drawn p (drop k (random ++ more)) ≡ noise_drawn p (drop k random)
  unfolding noise_drawn
  noise_drawn-append k h = ap (small_drawn p) (take-append-drop-le (small_length p) k random more h)

  pub halves_used-append : (half_draws p random).enough ≡ true → halves_used p (random ++ more) ≡ halves_used p random
  unfolding halves_used
  halves_used-append e = rw (secret_draws-append p 2 random more e)

  pub key_draws-append : (half_draws p random).enough ≡ true → (key_draws p random).enough ≡ true → key_draws p (random ++ more) ≡ key_draws p random
  unfolding key_draws
  key_draws-append h e =
      rw (halves_used-append h, drop-append-le (halves_used p random) random more (halves_used-there p random))
      (draws_below-append p.q _ (drop (halves_used p random) random) more e)

  pub mask_draws-append : (mask_draws p random).enough ≡ true → mask_draws p (random ++ more) ≡ mask_draws p random
  unfolding mask_draws
  mask_draws-append e = draws_below-append p.q _ random more e

  -- an accepted key generation answers the same with more random octets
  pub keygen_answer-append : (secret_len public_len work_len : ℕ) (k : KeyPair) → keygen_answer p random secret_len public_len work_len ≡ accepted k
      → keygen_answer p (random ++ more) secret_len public_len work_len ≡ accepted k
  unfolding keygen_answer
  keygen_answer-append secret_len public_len work_len k e =
      let t = answer-accepted_only _ _ _ k e in
      let passed = neither_true _ _ (first_refusal_passed 9 _ [] (omega arith) t.1).0 in
      let settled : (half_draws p random).enough ≡ true = not-false _ passed.0 in
      let enough : (key_draws p random).enough ≡ true = not-false _ passed.1 in
      rw (secret_draws-append p 2 random more settled, key_draws-append settled enough) e

  pub noise_of-append : (start i : ℕ) → start + suc i * small_length p ≤ length random
      → noise_of p (drop start (random ++ more)) i ≡ noise_of p (drop start random) i
  unfolding noise_of
  noise_of-append start i h =
      let room : start + i * small_length p + small_length p ≤ length random = omega (arith, suc-mul i (small_length p)) in
      rw (
        drop-drop (i * small_length p) start (random ++ more),
        drop-drop (i * small_length p) start random,
        noise_drawn-append (start + i * small_length p) room,
      )

  pub mask_used-append : (mask_draws p random).enough ≡ true → mask_used p (random ++ more) ≡ mask_used p random
  unfolding mask_used
  mask_used-append e = rw (mask_draws-append e)

  pub encrypt_used-append : (mask_draws p random).enough ≡ true → encrypt_used p (random ++ more) ≡ encrypt_used p random
  unfolding encrypt_used
  encrypt_used-append e = rw (mask_used-append e)

  ciphertext-append : (key : Polynomial) (m : Element) (r : Polynomial) → encrypt_used p random ≤ length random
      → octets_from p (degree p) (encrypted_with p key m r (noise_of p (drop (mask_used p random) (random ++ more))))
      ≡ octets_from p (degree p) (encrypted_with p key m r (noise_of p (drop (mask_used p random) random)))
  unfolding encrypt_used encrypted_with sum_of
  ciphertext-append key m r h =
      octets_from_cong p (degree p) (λ i l k s.
      let room : mask_used p random + suc i * small_length p ≤ length random = omega (arith, mul-le-mul_right (small_length p) l) in
      rw (noise_of-append (mask_used p random) i room))

  -- an accepted encryption answers the same with more random octets
  pub encrypt_answer-append : (public message : List ℕ) (ciphertext_len work_len : ℕ) (c : Encrypted)
      → encrypt_answer p public message random ciphertext_len work_len ≡ accepted c
      → encrypt_answer p public message (random ++ more) ciphertext_len work_len ≡ accepted c
  unfolding encrypt_answer
  encrypt_answer-append public message ciphertext_len work_len c e =
      let t = answer-accepted_only _ _ _ c e in
      let padding = first_refusal_passed 7 _ _ (omega arith) t.1 in
      let coefficients = first_refusal_passed 8 _ _ (omega arith) padding.1 in
      let passed = neither_true _ _ (first_refusal_passed 9 _ [] (omega arith) coefficients.1).0 in
      let enough : (mask_draws p random).enough ≡ true = not-false _ passed.0 in
      let fits : encrypt_used p random ≤ length random = ltb-false _ _ passed.1 in
      let longer : encrypt_used p random ≤ length (random ++ more) = omega (arith, length-append random more) in
      rw (
        mask_used-append enough,
        encrypt_used-append enough,
        mask_draws-append enough,
        le-ltb (length (random ++ more)) (encrypt_used p random) longer,
        ciphertext-append _ _ _ fits,
      )
      (rw (le-ltb (length random) (encrypt_used p random) fits) at e)

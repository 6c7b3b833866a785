-- What stands where in a list after a part of it was lent and given back.
--
--   borrowed_slice       what is lent is the slice;  put_follows: what comes back stands behind what stood before it
--   follows_slice    such a list is the slice;  follows_kept: and what stood before it is as it was
--   slice_kept       a slice of a front that is as it was;  slice_front: the front of a slice;  slice_at: its elements
--   follows_twice    two lists one behind the other;  put_tail: a tail that was lent;  put_zeros: zeros behind a slice
-- Assumes nothing.
use Prim.Native.Nat.{ℕ, ◌+◌, ◌-◌, ◌≤◌, ◌<◌}
use native.Mathlib.Nat.{zero-add, le_of_eq}
use native.Mathlib.Omega.{arith}
use mathlib.Core.Path.{◌≡◌, refl, sym, ap, ◌∙◌}
use mathlib.Core.List.{List, ◌++◌, append_assoc}
use lib.ListN.{length, get_or, take, drop, replicate, length-append}
use lib.Seq.{slice, take_all, take_at, drop_at, take-add, take-take, drop-append-le, length-take-le, get_or-take, get_or-drop}
use borrow.Rule.Slice.PartMut.{mid_of, post_of, put_mid, same_len_mid, mid_len}
use Rattle.key_draws.specs.Keys.{Follows}

module _ (a e : ℕ) (l : List ℕ) (h : a ≤ e) (g : e ≤ length l) where
  pub borrowed_slice : mid_of a (e - a) l ≡ slice a e l
  borrowed_slice =
      let whole : a + (e - a) ≡ e = omega arith in
      sym (ap (drop a) (ap (λ (m : ℕ). take m l) (sym whole) ∙ take-add a (e - a) l)
      ∙ drop_at (take a l) (mid_of a (e - a) l) a (length-take-le a l (omega arith)))

  pub put_follows : (new : List ℕ) → length new ≡ length (mid_of a (e - a) l) → Follows a e new l (put_mid a (e - a) l new)
  put_follows new same =
      let long : length (take a l ++ new) ≡ e = length-append (take a l) new ∙ omega (arith, same, mid_len a e l g, length-take-le a l (omega arith)) in
      ap (take e) (sym (append_assoc (take a l) new (post_of a (e - a) l))) ∙ take_at (take a l ++ new) (post_of a (e - a) l) e long

module _ (a e : ℕ) (new old given : List ℕ) (h : a ≤ length old) (f : Follows a e new old given) where
  pub follows_slice : slice a e given ≡ new
  follows_slice = ap (drop a) f ∙ drop_at (take a old) new a (length-take-le a old h)

  pub follows_kept : a ≤ e → take a given ≡ take a old
  follows_kept l = sym (take-take a e given l) ∙ ap (take a) f ∙ take_at (take a old) new a (length-take-le a old h)

pub slice_kept : (a e k : ℕ) (old given : List ℕ) → e ≤ k → take k given ≡ take k old → slice a e given ≡ slice a e old
slice_kept a e k old given l same = ap (drop a) (sym (take-take e k given l) ∙ ap (take e) same ∙ take-take e k old l)

pub slice_front : (a m e : ℕ) (l : List ℕ) → a + m ≤ e → e ≤ length l → take m (slice a e l) ≡ slice a (a + m) l
slice_front a m e l h g =
    let same : a + m - a ≡ m = omega arith in
    ap (take m) (sym (borrowed_slice a e l (omega arith) g)) ∙ take-take m (e - a) (drop a l) (omega arith)
    ∙ (rw same at (borrowed_slice a (a + m) l (omega arith) (omega arith)))

pub slice_at : (a e : ℕ) (l : List ℕ) (k : ℕ) → a + k < e → get_or (slice a e l) k 0 ≡ get_or l (a + k) 0
slice_at a e l k s = get_or-drop a (take e l) k 0 ∙ get_or-take e l (a + k) 0 s

-- two lists one behind the other are the whole
pub follows_twice : (a : ℕ) (old mid given u v : List ℕ) → Follows 0 (0 + a) u old mid → Follows a (a + a) v mid given
    → length given ≡ a + a → given ≡ u ++ v
follows_twice a old mid given u v f g sized =
    sym (take_all (a + a) given (omega arith)) ∙ g ∙ ap (λ (l : List ℕ). l ++ v) (rw (zero-add a) at f)

-- a tail that was lent
pub put_tail : (a : ℕ) (l new : List ℕ) → a ≤ length l → length new ≡ length (mid_of a (length l - a) l) → put_mid a (length l - a) l new ≡ take a l ++ new
put_tail a l new h same =
    sym (take_all (length l) (put_mid a (length l - a) l new) (le_of_eq (same_len_mid a (length l - a) l new same)))
    ∙ put_follows a (length l) l h (le_of_eq refl) new same

-- zeros behind a slice
pub put_zeros : (a e n : ℕ) (l zeros : List ℕ) → a ≤ e → e + n ≤ length l → length zeros ≡ length (mid_of e (e + n - e) l) → zeros ≡ replicate n 0
    → mid_of a (e + n - a) (put_mid e (e + n - e) l zeros) ≡ slice a e l ++ replicate n 0
put_zeros a e n l zeros h g same z =
    let given : List ℕ = put_mid e (e + n - e) l zeros in
    let f : Follows e (e + n) zeros l given = put_follows e (e + n) l (omega arith) g zeros same in
    borrowed_slice a (e + n) given (omega arith) (omega (arith, same_len_mid e (e + n - e) l zeros same))
    ∙ ap (drop a) f ∙ drop-append-le a (take e l) zeros (omega (arith, length-take-le e l (omega arith))) ∙ ap (λ (r : List ℕ). slice a e l ++ r) z

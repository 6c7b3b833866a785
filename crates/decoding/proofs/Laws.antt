-- Why reading octet by octet gives a number: each octet has 256 times the weight of the one before it.
--
--   number_of-append      the number of octets with more behind them;  number_of-take: of a part of a list, as a sum over its places
--   number_of_four        the number of the first of four octets
-- Assumes nothing.
use Prim.Native.Nat.{ℕ, zero, suc, ◌+◌, ◌*◌, ◌%◌, ◌^◌, ◌≤◌, ◌<◌}
use mathlib.Core.Path.{◌≡◌, sym, ap, ◌∙◌}
use mathlib.Core.List.{List, [], ◌∷◌, ◌++◌}
use native.Mathlib.Nat.{add-zero, pow-suc, add-mul-mod_self_left, mod-eq_of_lt}
use native.Mathlib.Omega.{arith}
use lib.ListN.{length, get_or, take, drop, length-drop, take-append-drop}
use lib.Seq.{take-take, take-suc, get_or-drop, length-take-le}
use Rattle.definitions.specs.Sequences.{sum}
use Rattle.definitions.specs.Octets.{number_of}
use Rattle.definitions.proofs.Octets.{AllBelow, below-take, below-drop, number_of-below}

number_of-append : (xs ys : List ℕ) → number_of (xs ++ ys) ≡ number_of xs + 256 ^ length xs * number_of ys
unfolding number_of
number_of-append [] ys = omega arith
number_of-append (x ∷ xs) ys =
    let e : 256 ^ length (x ∷ xs) ≡ 256 ^ length xs * 256 = pow-suc 256 (length xs) in
    rw (e, number_of-append xs ys) (omega arith)

number_of-take-suc : (k at : ℕ) (l : List ℕ) → at + k < length l
    → number_of (take (suc k) (drop at l)) ≡ number_of (take k (drop at l)) + 256 ^ k * get_or l (at + k) 0
unfolding number_of
number_of-take-suc k at l h =
    let inside : k < length (drop at l) = omega (arith, length-drop at l) in
    let short : length (take k (drop at l)) ≡ k = length-take-le k (drop at l) (omega arith) in
    rw (take-suc (drop at l) k 0 inside, number_of-append (take k (drop at l)) (get_or (drop at l) k 0 ∷ []), short, get_or-drop at l k 0) (omega arith)

-- the first octet, then the others with their weights
pub number_of-take : (k at : ℕ) (l : List ℕ) → at + suc k ≤ length l
    → number_of (take (suc k) (drop at l)) ≡ get_or l at 0 + sum k (λ j. 256 ^ suc j * get_or l (at + suc j) 0)
unfolding sum number_of
number_of-take zero at l h =
    let e : get_or l (at + 0) 0 ≡ get_or l at 0 = rw (add-zero at) in
    omega (arith, number_of-take-suc 0 at l (omega arith))
number_of-take (suc k) at l h = omega (arith, number_of-take-suc (suc k) at l (omega arith), number_of-take k at l (omega arith))

-- the first octets of a list, kept of its number
number_of-front : (len : ℕ) (xs : List ℕ) → AllBelow 256 xs → len ≤ length xs → number_of (take len xs) ≡ number_of xs % 256 ^ len
number_of-front len xs below h =
    let short : length (take len xs) ≡ len = length-take-le len xs h in
    let small : number_of (take len xs) < 256 ^ len = rw short at (number_of-below (take len xs) (below-take 256 len xs below)) in
    let whole : number_of xs ≡ number_of (take len xs) + 256 ^ len * number_of (drop len xs)
    = ap number_of (sym (take-append-drop len xs)) ∙ rw short at (number_of-append (take len xs) (drop len xs)) in
    rw (whole, add-mul-mod_self_left (number_of (take len xs)) (256 ^ len) (number_of (drop len xs))) (sym (mod-eq_of_lt small))

-- and of four octets that are read at once
pub number_of_four : (len at : ℕ) (l : List ℕ) → AllBelow 256 l → len ≤ 4 → at + 4 ≤ length l
    → number_of (take len (drop at l)) ≡ number_of (take 4 (drop at l)) % 256 ^ len
number_of_four len at l below few h =
    let full : length (take 4 (drop at l)) ≡ 4 = length-take-le 4 (drop at l) (omega (arith, length-drop at l)) in
    rw (← take-take len 4 (drop at l) few)
    (number_of-front len (take 4 (drop at l)) (below-take 256 4 (drop at l) (below-drop 256 at l below)) (omega arith))

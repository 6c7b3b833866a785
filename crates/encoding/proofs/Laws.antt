-- Why writing octet by octet gives a number's octets: each octet has 256 times the weight of the one before it.
--
--   octets_of-..           the octets of a number with some more; of one that stands above another; as std writes a number; the first of them
--   stored, stored_part    a list with some octets of a number stored from a place on
--   encoded-.., encode_..  the words before a place are encoded: a turn that stores one word or two, and the loop's end
-- Assumes nothing.
use Prim.Native.Nat.{ℕ, zero, suc, ◌+◌, ◌-◌, ◌*◌, ◌/◌, ◌%◌, ◌^◌, ◌≤◌, ◌<◌}
use mathlib.Core.Path.{◌≡◌, refl, sym, ap, ap₂, ◌∙◌}
use mathlib.Core.List.{List, [], ◌∷◌, ◌++◌, append-nil}
use native.Mathlib.Nat.{zero-add, suc-add, one-mul, mul_assoc, pow-suc, pow-succ', div-one, div-div-eq-div-mul}
use native.Mathlib.Nat.{add-mul-div_left, div-eq_of_lt, mod-add-div, mod-lt, le_of_eq}
use native.Mathlib.Omega.{arith}
use lib.ListN.{length, get_or, take, drop}
use lib.Seq.{take_all, take-add, drop-cons, drop-drop}
use borrow.Rule.Slice.PartMut.{put_mid}
use Rattle.std.specs.Int.{byte_at, bytes_low_first}
use Rattle.definitions.specs.Sequences.{joined}
use Rattle.definitions.specs.Octets.{octets_of, encoded}
use Rattle.definitions.proofs.Filling.{next_places, put_front}
use Rattle.definitions.proofs.Octets.{length-octets_of, encoded-append}
use Rattle.definitions.proofs.Powers.{weight_pos}

-- ---- the octets of a number

octets_of-add : (a b x : ℕ) → octets_of (a + b) x ≡ octets_of a x ++ octets_of b (x / 256 ^ a)
unfolding octets_of
octets_of-add zero b x = rw (zero-add b, div-one x)
octets_of-add (suc a) b x =
    let e : x / 256 ^ suc a ≡ x / 256 / 256 ^ a = rw (pow-succ' 256 a) (sym (div-div-eq-div-mul x 256 (256 ^ a))) in
    rw (suc-add a b, e) (ap (λ (r : List ℕ). x % 256 ∷ r) (octets_of-add a b (x / 256)))

-- what lies above does not show
octets_of_above : (a x y : ℕ) → octets_of a (x + 256 ^ a * y) ≡ octets_of a x
unfolding octets_of
octets_of_above zero x y = refl
octets_of_above (suc a) x y =
    let e : 256 ^ suc a * y ≡ 256 * (256 ^ a * y) = rw (pow-succ' 256 a) (mul_assoc 256 (256 ^ a) y) in
    let low : (x + 256 ^ suc a * y) % 256 ≡ x % 256 = omega arith in
    let high : (x + 256 ^ suc a * y) / 256 ≡ x / 256 + 256 ^ a * y = omega arith in
    rw (low, high) (ap (λ (r : List ℕ). x % 256 ∷ r) (octets_of_above a (x / 256) y))

octets_of-low : (a x : ℕ) → octets_of a (x % 256 ^ a) ≡ octets_of a x
octets_of-low a x =
    let whole : x % 256 ^ a + 256 ^ a * (x / 256 ^ a) ≡ x = mod-add-div x (256 ^ a) in
    sym (octets_of_above a (x % 256 ^ a) (x / 256 ^ a)) ∙ ap (octets_of a) whole

-- the octets of two numbers, of which the second stands above the first
octets_of_pair : (a x y z : ℕ) → x ≡ y % 256 ^ a + 256 ^ a * z → octets_of (a + a) x ≡ octets_of a y ++ octets_of a z
octets_of_pair a x y z e =
    let high : x / 256 ^ a ≡ z
    = rw (e, add-mul-div_left (y % 256 ^ a) z (weight_pos a), div-eq_of_lt (mod-lt y (weight_pos a))) (zero-add z) in
    let low : octets_of a x ≡ octets_of a y = rw (e, octets_of_above a (y % 256 ^ a) z) (octets_of-low a y) in
    rw (octets_of-add a a x, low, high)

-- as std writes a number
octets_of-from : (i k x : ℕ) → bytes_low_first i k x ≡ octets_of k (x / 256 ^ i)
unfolding octets_of
octets_of-from i zero x = refl
octets_of-from i (suc k) x =
    let next : x / 256 ^ suc i ≡ x / 256 ^ i / 256 = rw (pow-suc 256 i) (sym (div-div-eq-div-mul x (256 ^ i) 256)) in
    ap₂ ◌∷◌ (octet i) (octets_of-from (suc i) k x ∙ ap (octets_of k) next)
  where
    octet : (i : ℕ) → byte_at i x ≡ x / 256 ^ i % 256
    octet zero = rw (div-one x)
    octet (suc i) = refl

pub octets_of-std : (k x : ℕ) → bytes_low_first 0 k x ≡ octets_of k x
octets_of-std k x = octets_of-from 0 k x ∙ ap (octets_of k) (div-one x)

pub octets_of-take : (k len x : ℕ) → k ≤ len → take k (octets_of len x) ≡ octets_of k x
unfolding octets_of
octets_of-take zero len x h = refl
octets_of-take (suc k) zero x h = let z : ⊥ = omega arith in absurd z
octets_of-take (suc k) (suc len) x h = ap (λ (r : List ℕ). x % 256 ∷ r) (octets_of-take k len (x / 256) (omega arith))

-- ---- octets stored

-- a list with the first k octets of x from place at on
abbrev pub stored : ℕ → ℕ → ℕ → List ℕ → List ℕ
stored at k x l = take at l ++ (octets_of k x ++ drop (at + k) l)

-- a part lent for them and given back
pub stored_part : (at len x : ℕ) (l : List ℕ) {part : List ℕ} → part ≡ octets_of len x → put_mid at (at + len - at) l part ≡ stored at len x l
stored_part at len x l e =
    let size : at + len - at ≡ len = omega arith in
    rw (e, size, drop-drop len at l)

module _ (at len x : ℕ) (l : List ℕ) {r : List ℕ} (room : at + len ≤ length l) (e : r ≡ stored at len x l) where
  -- what stands up to the end of the first k octets
  pub take_stored : (k : ℕ) → k ≤ len → take (at + k) r ≡ take at l ++ octets_of k x
  take_stored k h = rw (octets_of-take k len x h) at (put_front l (octets_of len x) at len (omega arith) (length-octets_of len x) e k h)

-- ---- the loops

-- the octets of one word
encoded-one : (qlen x : ℕ) → encoded qlen (x ∷ []) ≡ octets_of qlen x
encoded-one qlen x = unfold encoded joined in append-nil (octets_of qlen x)

pub encoded_snoc : (qlen : ℕ) (xs : List ℕ) (x : ℕ) → encoded qlen (xs ++ (x ∷ [])) ≡ encoded qlen xs ++ octets_of qlen x
encoded_snoc qlen xs x = rw (encoded-append qlen xs (x ∷ []), encoded-one qlen x)

-- a turn that stores the octets of so many words, and perhaps some more, which the next turn writes over
encode_turn : (m qlen len x count : ℕ) (words l : List ℕ) {r : List ℕ} → m * qlen + len ≤ length l → r ≡ stored (m * qlen) len x l
    → take (m * qlen) l ≡ encoded qlen (take m words) → count * qlen ≤ len → octets_of (count * qlen) x ≡ encoded qlen (take count (drop m words))
    → take ((m + count) * qlen) r ≡ encoded qlen (take (m + count) words)
encode_turn m qlen len x count words l room e before whole value =
    let next : (m + count) * qlen ≡ m * qlen + count * qlen = omega arith in
    rw (next, take_stored (m * qlen) len x l room e (count * qlen) whole, before, value, take-add m count words)
    (sym (encoded-append qlen (take m words) (take count (drop m words))))

-- one word
pub encode_wide : (m qlen len : ℕ) (words l : List ℕ) {r : List ℕ} → m < length words → qlen ≤ len → m * qlen + len ≤ length l
    → r ≡ stored (m * qlen) len (get_or words m 0) l → take (m * qlen) l ≡ encoded qlen (take m words)
    → take ((m + 1) * qlen) r ≡ encoded qlen (take (m + 1) words)
encode_wide m qlen len words l inside whole room e before =
    encode_turn m qlen len (get_or words m 0) 1 words l room e before (omega arith)
    (rw (drop-cons words m 0 inside, encoded-one qlen (get_or words m 0), one-mul qlen))

-- two words, as eight octets
pub encode_eight : (m qlen : ℕ) (words l : List ℕ) {x : ℕ} {r : List ℕ} → m + 2 ≤ length words → qlen ≤ 4 → m * qlen + 8 ≤ length l
    → x ≡ get_or words m 0 % 256 ^ qlen + 256 ^ qlen * get_or words (m + 1) 0 → r ≡ stored (m * qlen) 8 x l
    → take (m * qlen) l ≡ encoded qlen (take m words) → take ((m + 2) * qlen) r ≡ encoded qlen (take (m + 2) words)
encode_eight m qlen words l {x} inside few room value e before =
    let twice : 2 * qlen ≡ qlen + qlen = omega arith in
    let both : take 2 (drop m words) ≡ (get_or words m 0 ∷ []) ++ (get_or words (m + 1) 0 ∷ [])
    = rw ((next_places m).0, drop-cons words m 0 (omega arith), drop-cons words (suc m) 0 (omega arith)) in
    encode_turn m qlen 8 x 2 words l room e before (omega arith)
    (rw (twice, both, encoded_snoc qlen (get_or words m 0 ∷ []) (get_or words (m + 1) 0), encoded-one qlen (get_or words m 0))
    (octets_of_pair qlen x (get_or words m 0) (get_or words (m + 1) 0) value))

pub encode_end : (m qlen : ℕ) (words l : List ℕ) → length words ≡ m → length l ≡ length words * qlen
    → take (m * qlen) l ≡ encoded qlen (take m words) → l ≡ encoded qlen words
encode_end m qlen words l end exact e =
    let full : take (m * qlen) l ≡ l = take_all (m * qlen) l (le_of_eq (exact ∙ ap (λ (k : ℕ). k * qlen) end)) in
    let all : take m words ≡ words = take_all m words (le_of_eq end) in
    rw (full, all) at e

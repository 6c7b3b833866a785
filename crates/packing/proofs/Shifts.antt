-- Why the shifts of a group lose nothing: its coefficients have at most 32 bits together.
--
--   shift_end        the end of a coefficient's bits is at most 32
--   value_next       the number of one coefficient more;  value-fits: it has at most 32 bits;  part_fits: the coefficients of a part
--   shift_exact      a coefficient shifted to its place;  gather_step: a sum with one coefficient more, as code makes it
-- Assumes nothing.
use Prim.Native.Nat.{ℕ, suc, ◌+◌, ◌*◌, ◌%◌, ◌^◌, ◌≤◌, ◌<◌}
use mathlib.Core.Path.{◌≡◌}
use mathlib.Core.Bool.{true}
use mathlib.Core.List.{List}
use native.Mathlib.Nat.{suc-mul, mul_comm, mul-le-mul_right, le_trans, lt_of_lt_of_le}
use native.Mathlib.Numerals.{add-one}
use native.Mathlib.Omega.{arith}
use lib.Pow.{pow_mono, shl_exact}
use lib.ListN.{length, get_or, take, drop, length-take}
use lib.Seq.{take-suc, length-take-le}
use Rattle.definitions.specs.Octets.{coefficients_fit}
use Rattle.definitions.proofs.Octets.{below-take, below-drop, coefficients_fit-below, coefficients_fit_true}
use Rattle.packing.specs.Fields.{value_in}
use Rattle.packing.proofs.Fields.{value-below, value_snoc}

-- the end of the bits of coefficient k
shift_end : (k count b : ℕ) → k < count → count * b ≤ 32 → b + k * b ≤ 32
shift_end k count b few narrow =
    let next : suc k ≤ count = few in
    omega (arith, mul-le-mul_right b next, suc-mul k b)

-- the number of one coefficient more
pub value_next : (words : List ℕ) (b k : ℕ) → k < length words
    → value_in b (take (suc k) words) ≡ value_in b (take k words) + get_or words k 0 * 2 ^ (k * b)
value_next words b k inside =
    let whole : length (take k words) ≡ k = length-take-le k words (omega arith) in
    rw (take-suc words k 0 inside, value_snoc b (take k words) (get_or words k 0), whole, mul_comm (get_or words k 0) (2 ^ (k * b)))

-- coefficients that have at most 32 bits together
pub value-fits : (words : List ℕ) (at b count : ℕ) → coefficients_fit (2 ^ b) words ≡ true → count * b ≤ 32
    → value_in b (take count (drop at words)) < 4294967296
value-fits words at b count fit narrow =
    let part = take count (drop at words) in
    let short : length part ≤ count = omega (arith, length-take count (drop at words)) in
    let bits : length part * b ≤ 32 = le_trans (mul-le-mul_right b short) narrow in
    let below = below-take (2 ^ b) count (drop at words) (below-drop (2 ^ b) at words (coefficients_fit-below (2 ^ b) words fit)) in
    lt_of_lt_of_le (value-below b part below) (pow_mono bits)

-- a part of coefficients that fit
pub part_fits : (q at count : ℕ) (words : List ℕ) → coefficients_fit q words ≡ true → coefficients_fit q (take count (drop at words)) ≡ true
part_fits q at count words fit =
    coefficients_fit_true q (take count (drop at words)) (below-take q count (drop at words) (below-drop q at words (coefficients_fit-below q words fit)))

-- a coefficient shifted to its place
pub shift_exact : (words : List ℕ) (b k count i : ℕ) → coefficients_fit (2 ^ b) words ≡ true → count * b ≤ 32 → k < count → i < length words
    → get_or words i 0 * 2 ^ (k * b) % 4294967296 ≡ get_or words i 0 * 2 ^ (k * b)
shift_exact words b k count i fit narrow few inside =
    shl_exact b (k * b) 32 (coefficients_fit-below (2 ^ b) words fit i inside) (shift_end k count b few narrow)

-- a sum with one coefficient more, as code makes it
pub gather_step : (words : List ℕ) (b k : ℕ) {x : ℕ} → coefficients_fit (2 ^ b) words ≡ true → length words * b ≤ 32 → k < length words
    → x ≡ value_in b (take k words) → x + get_or words k 0 * 2 ^ (k * b) % 4294967296 ≡ value_in b (take (k + 1) words)
gather_step words b k fit narrow few e = rw (shift_exact words b k (length words) k fit narrow few few, e, add-one k, value_next words b k few)

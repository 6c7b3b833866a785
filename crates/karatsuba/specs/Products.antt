-- What a product by Karatsuba leaves behind, and what its steps do. All stands in one list of words: a and b, m = 2 h coefficients each,
-- before the place at, the product from at on, and the words that are free behind it.
--
--   Placing          the words stand so, and are enough
--   Multiplied       the product of a and b, modulo q, stands at its place; the words before it and between it and the free ones are
--                    kept; the free ones may be anything
--   BoundsSums       a bound of the sums, modulo q, of two coefficients below top
--   HalvesAdded      the sums, modulo q, of the halves of a and of those of b stand one after the other; all other words are kept
--   Joined           the product at free, less the two that stand one after the other at their place, is added to these h places up
-- Assumes nothing.
use Rattle.std.specs.Prelude.{ℕ, ◌+◌, ◌-◌, ◌%◌, ◌<◌, ◌≤◌, ◌≡◌, List, length, get_or}
use Rattle.ring.specs.Work.{part}
use Rattle.ring.specs.Linear.{linear}

pub record Placing (m a b at free : ℕ) (words : List ℕ) : Type 0 where
  pub first : a + m ≤ at
  pub second : b + m ≤ at
  pub product : at + (m + m) ≤ free
  pub room : free + (m + m) ≤ length words

pub record Multiplied (q m a b at free : ℕ) (words words' : List ℕ) : Type 0 where
  pub kept : (k : ℕ) → k < at → get_or words' k 0 ≡ get_or words k 0
  pub between : (k : ℕ) → at + (m + m) ≤ k → k < free → get_or words' k 0 ≡ get_or words k 0
  pub same : (k : ℕ) → k < m + m → part words' at k ≡ linear m (part words a) (part words b) k % q

pub record BoundsSums (q top r : ℕ) : Type 0 where
  pub most : r ≤ q
  pub bounds : (x y : ℕ) → x < top → y < top → (x + y) % q < r

pub record HalvesAdded (q h a b at : ℕ) (words words' : List ℕ) : Type 0 where
  pub kept : (k : ℕ) → k < at → get_or words' k 0 ≡ get_or words k 0
  pub behind : (k : ℕ) → at + (h + h) ≤ k → get_or words' k 0 ≡ get_or words k 0
  pub first : (k : ℕ) → k < h → part words' at k ≡ (part words a k + part words (a + h) k) % q
  pub second : (k : ℕ) → k < h → part words' (at + h) k ≡ (part words b k + part words (b + h) k) % q

pub record Joined (q m h at free : ℕ) (words words' : List ℕ) : Type 0 where
  pub low : (k : ℕ) → k < at + h → get_or words' k 0 ≡ get_or words k 0
  pub middle : (k : ℕ) → k < m → part words' (at + h) k ≡
      (part words (at + h) k + ((part words free k + (q - part words at k)) % q + (q - part words (at + m) k)) % q) % q
  pub high : (k : ℕ) → at + h + m ≤ k → k < free → get_or words' k 0 ≡ get_or words k 0

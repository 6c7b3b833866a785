-- How a product is summed by rows: row i is a_i × b, shifted by i places.
--
--   padded           a polynomial of m coefficients, followed by zeros
--   shifted          b, shifted by i places, at place k
--   row_term          what row i adds at place k
--   four_rows         what the four rows from i on add at place k
--   eight_rows        the same of eight rows, each four taken through g: as they are, or cut
--   factors_from      the factors of the four rows from i on
--   row_sum           four rows as they are summed, with given factors: the first is read at k + 3, each next one a place before
--   Surrounded       a row: a list in which b stands after seven zeros and before no others than zeros
--   Operands         two polynomials of as many coefficients, at most 80 and below 2^31: a list, and one that stands in a row
--   Added            a list with f k added at each place k
--   Halves           a number cut at 2^42: low + 2^42 × high, both small enough to be put together again below 2^64
--   Leaf             two polynomials of at most 80 coefficients stand in the words, which have room for their product from a place on
--   leaf_product      the words with the product, modulo q, at that place
-- Assumes nothing.
use Rattle.std.specs.Prelude.{ℕ, ◌+◌, ◌-◌, ◌*◌, ◌%◌, ◌≤◌, ◌<◌, ◌≡◌, cond, List, ltb, leb, length, get_or}
use Rattle.definitions.specs.Sequences.{tabulate}
use Rattle.definitions.specs.Ring.{Element, InRing, element_of}
use Rattle.ring.specs.Work.{part, written}
use Rattle.ring.specs.Linear.{linear}
use Rattle.rows.specs.declared.Factors.{Factors}

unfoldable pub padded : ℕ → Element → Element
padded m a i = cond (ltb i m) (a i) 0

unfoldable pub shifted : ℕ → Element → ℕ → Element
shifted m b i k = cond (leb i k) (padded m b (k - i)) 0

unfoldable pub row_term : ℕ → Element → Element → ℕ → ℕ → ℕ
row_term m a b k i = padded m a i * shifted m b i k

unfoldable pub four_rows : ℕ → Element → Element → ℕ → ℕ → ℕ
four_rows m a b i k = row_term m a b k i + row_term m a b k (i + 1) + row_term m a b k (i + 2) + row_term m a b k (i + 3)

abbrev pub eight_rows : (ℕ → ℕ) → ℕ → Element → Element → ℕ → ℕ → ℕ
eight_rows g m a b i k = g (four_rows m a b i k) + g (four_rows m a b (i + 4) k)

unfoldable pub factors_from : ℕ → Element → ℕ → Factors
factors_from m a i = record { a0 = padded m a i; a1 = padded m a (i + 1); a2 = padded m a (i + 2); a3 = padded m a (i + 3) }

unfoldable pub row_sum : Factors → List ℕ → ℕ → ℕ
row_sum f row k = f.a0 * get_or row (k + 3) 0 + f.a1 * get_or row (k + 2) 0 + f.a2 * get_or row (k + 1) 0 + f.a3 * get_or row k 0

abbrev pub Surrounded : ℕ → Element → List ℕ → Type 0
Surrounded m b row = (j : ℕ) → get_or row j 0 ≡ shifted m b 7 j

pub record Operands (a row : List ℕ) : Type 0 where
  pub few : length a ≤ 80
  pub room : length a + 14 ≤ length row
  pub first_small : InRing 2147483648 (length a) (element_of a)
  pub second_small : InRing 2147483648 (length a) (part row 7)
  pub surrounded : Surrounded (length a) (part row 7) row

abbrev pub Added : (ℕ → ℕ) → List ℕ → List ℕ → Type 0
Added f old new = (k : ℕ) → get_or new k 0 ≡ get_or old k 0 + f k

pub record Halves (total low high : ℕ) : Type 0 where
  pub whole : low + 4398046511104 * high ≡ total
  pub low_small : low < 140737488355328
  pub high_small : high < 134217728

pub record Leaf (m a b at : ℕ) (words : List ℕ) : Type 0 where
  pub few : m ≤ 80
  pub first : a + m ≤ length words
  pub second : b + m ≤ length words
  pub room : at + (m + m) ≤ length words

abbrev pub leaf_product : ℕ → ℕ → ℕ → ℕ → ℕ → List ℕ → List ℕ
leaf_product q m a b at words = written at (tabulate (m + m) (λ k. linear m (part words a) (part words b) k % q)) words

-- How ring elements stand in a list of words, such as the work words: each n words in a row, from an offset on.
--
--   part             the element that stands at an offset
--   written          the words with a list written over them from an offset on; all others as they were
--   ReturnsWritten   what calls return is written, n words from an offset on; P k r says that the call of place k may return r, and where
--                    that allows v k alone, v is what is written
--   Apart            two parts of n words have no word in common
--   product_added     c := a × b + c in R_q, the three given by their offsets
--   element_added     c := c + e in R_q; element_taken: c := c - e
--   other_added       c := c + e in R_q, where the element e is no part of the words; other_taken: c := c - e
--   scaled_added      c := c + l × e in R_q
--   negated          a := -a in R_q
-- Assumes nothing.
use Rattle.std.specs.Prelude.{ℕ, ◌+◌, ◌-◌, ◌*◌, ◌%◌, ◌<◌, ◌≤◌, ◌≡◌, ◌⊎◌, List, ◌++◌, get_or, take, drop, length}
use Rattle.definitions.specs.Sequences.{tabulate}
use Rattle.definitions.specs.Ring.{Element, multiply_add}

abbrev pub part : List ℕ → ℕ → Element
part work at k = get_or work (at + k) 0

unfoldable pub written : ℕ → List ℕ → List ℕ → List ℕ
written at new old = take at old ++ (new ++ drop (at + length new) old)

abbrev pub ReturnsWritten : ℕ → ℕ → (ℕ → ℕ → Type 0) → List ℕ → List ℕ → Type 0
ReturnsWritten at n P old new = (v : Element) → ((k r : ℕ) → k < n → P k r → r ≡ v k) → new ≡ written at (tabulate n v) old

abbrev pub Apart : ℕ → ℕ → ℕ → Type 0
Apart a b n = (a + n ≤ b) ⊎ (b + n ≤ a)

abbrev pub product_added : ℕ → ℕ → ℕ → ℕ → ℕ → List ℕ → List ℕ
product_added n q a b c work = written c (tabulate n (multiply_add q n (part work a) (part work b) (part work c))) work

abbrev pub element_added : ℕ → ℕ → ℕ → ℕ → List ℕ → List ℕ
element_added n q e c work = written c (tabulate n (λ k. (part work c k + part work e k) % q)) work

abbrev pub element_taken : ℕ → ℕ → ℕ → ℕ → List ℕ → List ℕ
element_taken n q e c work = written c (tabulate n (λ k. (part work c k + (q - part work e k)) % q)) work

abbrev pub other_added : ℕ → ℕ → Element → ℕ → List ℕ → List ℕ
other_added n q e c work = written c (tabulate n (λ k. (part work c k + e k) % q)) work

abbrev pub other_taken : ℕ → ℕ → Element → ℕ → List ℕ → List ℕ
other_taken n q e c work = written c (tabulate n (λ k. (part work c k + (q - e k)) % q)) work

abbrev pub scaled_added : ℕ → ℕ → ℕ → ℕ → ℕ → List ℕ → List ℕ
scaled_added n q l e c work = written c (tabulate n (λ k. (part work c k + l * part work e k) % q)) work

abbrev pub negated : ℕ → ℕ → ℕ → List ℕ → List ℕ
negated n q a work = written a (tabulate n (λ k. (q - part work a k) % q)) work

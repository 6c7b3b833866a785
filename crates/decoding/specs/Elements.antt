-- What the elements of a polynomial that stand in octets, one after the other, are taken into.
--
--   Sizes            what a function that takes elements from octets into the eight parts of the work words asks of n, qlen and the words
-- Assumes nothing.
use Rattle.std.specs.Prelude.{ℕ, ◌*◌, ◌≤◌, ◌<◌, ◌≡◌, List, length}

pub record Sizes (n qlen : ℕ) (work : List ℕ) : Type 0 where
  pub places : 0 < n
  pub most : n ≤ 4096
  pub octets-least : 1 ≤ qlen
  pub octets-most : qlen ≤ 4
  pub room : length work ≡ 8 * n

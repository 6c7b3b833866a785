-- What is kept of how a product is halved.
--
--   Halvable         m is leaf times 2^levels, a leaf is short enough to be multiplied row by row, and m is at most the longest product's
-- Assumes nothing.
use Rattle.std.specs.Prelude.{ℕ, ◌*◌, ◌^◌, ◌≤◌, ◌≡◌}

pub record Halvable (levels leaf m : ℕ) : Type 0 where
  pub whole : m ≡ leaf * 2 ^ levels
  pub short : leaf ≤ 80
  pub most : m ≤ 4096

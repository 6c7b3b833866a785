-- What a modulus by which words are reduced keeps.
--
--   Reciprocal       q is below 2^31, and v is the largest word divided by q
-- Assumes nothing.
use Rattle.std.specs.Prelude.{ℕ, ◌/◌, ◌<◌, ◌≡◌}

pub record Reciprocal (q v : ℕ) : Type 0 where
  pub least : 0 < q
  pub most : q < 2147483648
  pub inverse : v ≡ 18446744073709551615 / q

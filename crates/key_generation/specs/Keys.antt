-- 01, "Draws from lent random octets" (key making): a key's constant.
--
--   with_constant     a key's octets, with those of minus its value at the secret in the work words in place of its constant's
-- Assumes nothing.
use Rattle.std.specs.Prelude.{ℕ, ◌-◌, ◌*◌, ◌%◌, List, ◌++◌, length, take}
use Rattle.definitions.specs.Sequences.{tabulate}
use Rattle.definitions.specs.Monomials.{value}
use Rattle.definitions.specs.Octets.{encoded}
use Rattle.definitions.specs.Calls.{polynomial_in}
use Rattle.ring.specs.Work.{part}

abbrev pub with_constant : ℕ → ℕ → ℕ → ℕ → List ℕ → List ℕ → List ℕ
with_constant d n len q public work =
    take (length public - n * len) public
    ++ encoded len (tabulate n (λ k. (q - value n d (polynomial_in n len public) (part work 0) (part work n) k % q) % q))

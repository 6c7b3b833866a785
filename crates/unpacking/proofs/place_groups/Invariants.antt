-- `unpacking::place_groups` is right because a turn writes into its own group only, and so keeps what the groups before have.
-- Assumes nothing.
use Rattle.std.proofs.Common.{ℕ, ◌*◌, ◌<◌, ◌≡◌, List, take, drop}
use Rattle.definitions.specs.Octets.{number_of}
use Rattle.unpacking.specs.Lanes.{lanes_of}
use Rattle.unpacking.proofs.place_groups.Given as goal

-- the lanes of group h
abbrev pub Placed : ℕ → ℕ → List ℕ → ℕ → List ℕ → Type 0
Placed b many octets h four = four ≡ lanes_of b (number_of (take (many * b) (drop (h * (many * b)) octets)))

abbrev pub invariant-loop-g : goal.invariant-loop-g
invariant-loop-g l = (h : ℕ) → h < l.g → Placed l.b l.many l.octets h (take 4 (drop (h * (l.many * 8)) l.words))

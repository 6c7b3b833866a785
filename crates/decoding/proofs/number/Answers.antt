-- `decoding::number` is right because each octet has 256 times the weight of the one before it.
-- Assumes nothing.
use Rattle.std.proofs.Common.{◌≡◌, ℕ, suc, ◌+◌, ◌*◌, ◌^◌, ◌≤◌, List, get_or, take, drop, length, arith}
use Rattle.definitions.specs.Sequences.{sum}
use Rattle.definitions.specs.Octets.{number_of}
use Rattle.decoding.proofs.Laws.{number_of-take}
use Rattle.decoding.proofs.number.Goals as goal

weighed : (octets : List ℕ) (at len k : ℕ) → at + len ≤ length octets → len ≡ suc k
    → number_of (take len (drop at octets)) ≡ get_or octets at 0 + sum k (λ j. 256 ^ suc j * get_or octets (at + suc j) 0)
weighed octets at len k room e = rw e (number_of-take k at octets (omega arith))

pub returns-in-0 : goal.returns-in-0
unfolding number_of
returns-in-0 c = rw c.in-0.is

pub returns-in-1 : goal.returns-in-1
unfolding sum
returns-in-1 c = omega (arith, weighed c.args.octets.now c.args.at c.args.len 0 c.requires.1 c.in-1.is)

pub returns-in-2 : goal.returns-in-2
unfolding sum
returns-in-2 c = omega (arith, weighed c.args.octets.now c.args.at c.args.len 1 c.requires.1 c.in-2.is, c.from_le_bytes.ensures)

pub returns-in-3 : goal.returns-in-3
unfolding sum
returns-in-3 c = omega (arith, weighed c.args.octets.now c.args.at c.args.len 2 c.requires.1 c.in-3.is, c.from_le_bytes-in-3.ensures)

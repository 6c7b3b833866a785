-- `unpacking::place` is right because four stores one after the other put four words into the front of a list.
-- Assumes nothing.
use Rattle.std.proofs.Common.{◌*◌, ◌/◌, ◌^◌, arith}
use Rattle.definitions.proofs.Filling.{four_stored}
use Rattle.unpacking.specs.Lanes.{lanes_of}
use Rattle.unpacking.proofs.place.Goals as goal

pub returns : goal.returns
unfolding lanes_of
returns c = let a = c.args in four_stored a.words.now 0 a.x (a.x / 2 ^ a.b) (a.x / 2 ^ (2 * a.b)) (a.x / 2 ^ (3 * a.b)) (omega arith)

-- A turn writes into its own group only, and so keeps what the groups before have.
-- Assumes nothing.
use Rattle.std.proofs.Common.{◌+◌, ◌*◌, ◌≤◌, length, refl, ap, arith}
use Rattle.definitions.proofs.Filling.{put_step}
use Rattle.definitions.proofs.Octets.{place_end}
use Rattle.packing.proofs.Fields.{given_rest}
use Rattle.unpacking.specs.Lanes.{lanes_of}
use Rattle.unpacking.proofs.place_groups.Invariants.{Placed}
use Rattle.unpacking.proofs.place_groups.Goals as goal

pub loop-g-preserved : goal.loop-g-preserved
unfolding lanes_of
loop-g-preserved c =
    let a = c.args in
    let l = c.loop-g in
    let room : l.g * (a.many * 8) + a.many * 8 ≤ length l.words
    = place_end l.g (a.many * 8) c.loop-g-test.true (rw l.auto.words c.requires.4) in
    put_step (Placed a.b a.many a.octets.now) l.words (lanes_of a.b c.number.result) (a.many * 8) 4 l.g (omega arith) (omega (arith, room)) refl
    (given_rest (l.g * (a.many * 8)) 4 l.words (lanes_of a.b c.number.result) c.place.ensures) (ap (lanes_of a.b) c.number.ensures) l.invariant

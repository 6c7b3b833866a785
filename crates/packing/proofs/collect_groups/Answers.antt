-- A turn puts the four sums of a group behind those of the groups before.
-- Assumes nothing.
use Rattle.std.proofs.Common.{◌+◌, ◌-◌, ◌*◌, ◌≤◌, length, ap, length-take, length-drop, arith}
use Rattle.definitions.proofs.Octets.{place_end}
use Rattle.packing.specs.Lanes.{lanes_in}
use Rattle.packing.proofs.Fields.{lent_rest, given_rest}
use Rattle.packing.proofs.Lanes.{collect_step}
use Rattle.packing.proofs.Shifts.{part_fits}
use Rattle.packing.proofs.collect_groups.Goals as goal

pub collect-requires : goal.collect-requires
collect-requires c =
    let a = c.args in
    let at = (a.start + c.loop-g.g) * (a.many * 8) in
    let room : at + a.many * 8 ≤ length a.words.now
    = place_end (a.start + c.loop-g.g) (a.many * 8) {count = a.start + a.some} (omega arith) c.requires.3 in (
      c.requires.0,
      omega arith,
      omega arith,
      simp (length-take, length-drop) (omega (arith, room)),
      simp (length-take, length-drop) (omega arith),
      part_fits _ at (length a.words.now - at) a.words.now c.requires.5,
    )

pub loop-g-preserved : goal.loop-g-preserved
loop-g-preserved c =
    let a = c.args in
    let l = c.loop-g in
    let room : (a.start + l.g) * (a.many * 8) + a.many * 8 ≤ length a.words.now
    = place_end (a.start + l.g) (a.many * 8) {count = a.start + a.some} (omega arith) c.requires.3 in
    let at = (a.start + l.g) * (a.many * 8) in
    let own = ap (lanes_in a.b (a.many * 2)) (lent_rest at a.words.now) in
    collect_step a.b a.many a.start l.g a.words.now l.lanes (omega arith) room (given_rest (l.g * 4) 4 l.lanes _ (rw own at c.collect.ensures)) l.invariant

-- A turn puts the octets of a group behind those of the groups before.
-- Assumes nothing.
use Rattle.std.proofs.Common.{◌+◌, ◌*◌, ◌≤◌, length, take, length-drop, sym, arith}
use mathlib.Core.List.{append-nil}
use native.Mathlib.Nat.{add-zero}
use Rattle.definitions.specs.Sequences.{tabulate, joined}
use Rattle.definitions.specs.Octets.{encoded}
use Rattle.definitions.proofs.Octets.{place_end}
use Rattle.packing.specs.Lanes.{lane_number}
use Rattle.packing.proofs.Fields.{lent_rest, take_stored_fields}
use Rattle.packing.proofs.Groups.{many_narrow}
use Rattle.packing.proofs.Lanes.{join_step}
use Rattle.packing.proofs.join_groups.Goals as goal

pub loop-g-init : goal.loop-g-init
unfolding encoded joined tabulate
loop-g-init c = rw (add-zero c.args.start) (sym (append-nil _))

pub join-requires : goal.join-requires
unfolding lane_number
join-requires c =
    let r = c.requires in
    rw (lent_rest (c.loop-g.g * 4) c.args.lanes.now) (
      many_narrow c.args.b c.args.many r.sizes.2 r.sizes.1,
      omega (arith, length-drop (c.loop-g.g * 4) c.args.lanes.now),
      r.lanes_fit c.loop-g.g c.loop-g-test.true,
    )

pub loop-g-preserved : goal.loop-g-preserved
unfolding lane_number
loop-g-preserved c =
    let a = c.args in
    let l = c.loop-g in
    let len = a.many * a.b in
    let room : (a.start + l.g) * (a.many * a.b) + a.many * a.b ≤ length l.octets
    = place_end (a.start + l.g) (a.many * a.b) {count = a.start + a.some} (omega arith) (rw l.auto.octets c.requires.sizes.3) in
    let number = rw (lent_rest (l.g * 4) a.lanes.now) at c.join.ensures in
    let written = take_stored_fields ((a.start + l.g) * len) len c.join.result l.octets room c.store.ensures in
    join_step len a.start l.g (take (a.start * len) a.octets.now) l.octets c.store.new.octets (lane_number a.b a.lanes.now) number l.invariant
    written

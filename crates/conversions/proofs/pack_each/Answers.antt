-- `conversions::pack_each` is right because each turn fills the next element's octets from its words.
-- Assumes nothing.
use Rattle.std.proofs.Common.{refl, ◌∙◌}
use Rattle.definitions.specs.Octets.{packed}
use Rattle.definitions.proofs.Packing.{length-packed}
use Rattle.parameters.proofs.Bounds.{small_bits-within}
use Rattle.conversions.proofs.Parts.{filled_none, filled_step, part_room, part-given, part-fits}
use Rattle.conversions.proofs.pack_each.Goals as goal

pub loop-i-init : goal.loop-i-init
loop-i-init c = filled_none (rw c.small_length-len.ensures c.requires.0.octets-length)

pub pack-requires : goal.pack-requires
pack-requires c =
    let b = small_bits-within c.args.p.set.l in
    rw c.bits-b.ensures (b.least, b.most, part-fits _ c.loop-i.i c.args.p.set.n c.args.words.now c.requires.1)

pub loop-i-preserved : goal.loop-i-preserved
loop-i-preserved c =
    let len = c.small_length-len.result in
    let room = part_room c.loop-i.i len refl c.loop-i-test.true c.loop-i.invariant.exact in
    filled_step c.loop-i-test.true (length-packed _ len _)
    (c.pack.ensures ∙ part-given packed _ c.loop-i.i c.args.p.set.n len c.args.words.now c.loop-i.octets room)
    c.loop-i.invariant

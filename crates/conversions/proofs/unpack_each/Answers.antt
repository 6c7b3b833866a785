-- `conversions::unpack_each` is right because each turn fills the next element's words from its octets.
-- Assumes nothing.
use Rattle.std.proofs.Common.{refl, ◌∙◌}
use Rattle.definitions.specs.Octets.{unpacked}
use Rattle.definitions.proofs.Packing.{length-unpacked}
use Rattle.parameters.proofs.Bounds.{small_bits-within}
use Rattle.conversions.proofs.Parts.{filled_none, filled_step, part_room, part-given}
use Rattle.conversions.proofs.unpack_each.Goals as goal

pub loop-i-init : goal.loop-i-init
loop-i-init c = filled_none c.requires.words_length

pub unpack-requires : goal.unpack-requires
unpack-requires c = let b = small_bits-within c.args.p.set.l in rw c.bits-b.ensures (b.least, b.most)

pub loop-i-preserved : goal.loop-i-preserved
loop-i-preserved c =
    let room = part_room c.loop-i.i c.args.p.set.n refl c.loop-i-test.true c.loop-i.invariant.exact in
    filled_step c.loop-i-test.true (length-unpacked _ c.args.p.set.n _)
    (c.unpack.ensures ∙ part-given unpacked _ c.loop-i.i c.small_length-len.result c.args.p.set.n c.args.octets.now c.loop-i.words room)
    c.loop-i.invariant

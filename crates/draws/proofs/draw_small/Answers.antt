-- `draw_small` is right because it unpacks just the octets of one element. Assumes nothing.
use Rattle.definitions.specs.Draws.{small_drawn}
use Rattle.parameters.proofs.Bounds.{small_bits-within}
use Rattle.draws.proofs.draw_small.Goals as goal

pub unpack-requires : goal.unpack-requires
unpack-requires c = rw c.bits.ensures ((small_bits-within _).least, (small_bits-within _).most)

pub returns : goal.returns
unfolding small_drawn
returns c =
    rw (c.bits.ensures, c.requires.1, c.small_length.ensures) at c.unpack.ensures

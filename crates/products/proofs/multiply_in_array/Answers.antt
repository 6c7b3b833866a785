-- `products::multiply_in_array` meets its contract: an array of zeros has only zeros.
-- Assumes nothing.
use Rattle.std.proofs.Common.{arith}
use lib.ListN.{length-replicate}
use Rattle.products.proofs.Loading.{zeros_below}
use Rattle.products.proofs.multiply_in_array.Goals as goal

pub multiply_in-requires : goal.multiply_in-requires
multiply_in-requires g c = (c.requires.0, c.requires.1, rw length-replicate c.requires.2, zeros_below g.row.WORDS (omega arith))

-- `products::fold` meets its contract: a turn adds the two coefficients that fold to its place to the word that stands there.
-- Assumes nothing.
use Rattle.std.proofs.Common.{◌+◌, ◌%◌, arith}
use Rattle.ring.specs.Work.{part}
use Rattle.ring.proofs.Work.{writing_none, writing_one, writing_own_ring, writing_all}
use Rattle.products.proofs.fold.Goals as goal

pub loop-k-init : goal.loop-k-init
loop-k-init c = writing_none (omega arith)

pub folded-requires : goal.folded-requires
folded-requires c =
    let ring = c.requires.in_ring in
    (ring.1 _ (omega arith), ring.1 _ (omega arith), writing_own_ring c.loop-k.invariant ring.0 (omega arith), c.requires.n_in_bounds.2)

pub loop-k-preserved : goal.loop-k-preserved
loop-k-preserved c =
    let f = part c.args.words.now c.args.at in
    writing_one (λ j x. (f j + f (c.args.n + j) + x) % c.args.q) c.loop-k.invariant (omega arith) c.folded.ensures

pub returns : goal.returns
returns c = writing_all c.loop-k.invariant (omega arith)

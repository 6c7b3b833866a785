-- `products::multiply_in` meets its contract: the factors are filled up with 0, and their product is folded.
-- Assumes nothing.
use Rattle.std.proofs.Common.{◌+◌, arith}
use Rattle.ring.specs.Work.{part}
use Rattle.products.proofs.Loading.{Loaded, loaded_both, loaded_below}
use Rattle.products.proofs.Folding.{product-added}
use Rattle.products.proofs.multiply_in.Goals as goal
use Rattle.products.proofs.multiply_in.Goals.{After-copy_from-2}

-- the two factors in the words
factors : (c : After-copy_from-2) → let w = c.copy_from-2.new.to in
    Loaded c.args.p.n c.args.h.m (part c.args.work.now c.args.p.a) (part w 0) × Loaded c.args.p.n c.args.h.m (part c.args.work.now c.args.p.b) (part w c.args.h.m)
factors c =
    let w = c.args.work.now in
    loaded_both c.args.p.n c.args.h.m (part w c.args.p.a) (part w c.args.p.b) c.args.words.now _ _ c.requires.1 (omega arith) c.requires.3
    c.copy_from.ensures c.copy_from-2.ensures

pub multiply-requires-clause-in_ring : goal.multiply-requires-clause-in_ring
multiply-requires-clause-in_ring c =
    let both = factors (goal.at.multiply-requires-clause-in_ring c).After-copy_from-2 in
    let within = c.requires.0 in
    (loaded_below both.0 c.args.modulus.exact.least within.first_ring, loaded_below both.1 within.top_least within.second_ring)

pub returns : goal.returns
returns c =
    let both = factors (goal.at.returns c).After-copy_from-2 in
    let p = c.args.p in
    let w = c.args.work.now in
    let m = c.args.h.m in
    let loaded = c.copy_from-2.new.to in
    product-added p.n m c.args.modulus.q (part w p.a) (part w p.b) (part loaded 0) (part loaded m) (part c.multiply.new.words (m + m)) c.requires.1
    both.0 both.1 c.multiply.ensures.same p.c w c.fold.ensures

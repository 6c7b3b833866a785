-- `products::short` meets its contract: the sums of the rows, folded, are the product in R_q.
-- Assumes nothing.
use Rattle.ring.specs.Work.{part}
use Rattle.products.proofs.Folding.{sums_small, sums_added}
use Rattle.products.proofs.short.Goals as goal

pub fold_sums-requires-clause-sums_fit : goal.fold_sums-requires-clause-sums_fit
fold_sums-requires-clause-sums_fit c =
    let p = c.args.p in
    let w = c.args.work.now in
    let within = c.requires.0 in
    sums_small p.n c.args.modulus.q (part w p.a) (part w p.b) c.sums.new.low c.sums.ensures c.requires.1 c.requires.2 within.first_ring within.second_ring

pub returns : goal.returns
returns c =
    let p = c.args.p in
    let w = c.args.work.now in
    sums_added p.n c.args.modulus.q (part w p.a) (part w p.b) c.sums.new.low c.sums.ensures p.c w c.fold_sums.ensures

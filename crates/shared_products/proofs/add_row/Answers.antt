-- `add_row`: the pairs are added where the square left the sum below q.
-- Assumes nothing.
use Rattle.std.proofs.Common.{◌≡◌, arith}
use Rattle.parameters.specs.Answers.{set_from}
use Rattle.mask_products.proofs.Sums.{terms_none, terms_more}
use Rattle.shared_products.specs.Sharing.{key_in, both_terms}
use Rattle.shared_products.proofs.Terms.{shared_after, gains_row}
use Rattle.shared_products.proofs.add_row.Goals as goal

pub loop-j-init : goal.loop-j-init
loop-j-init c = terms_none _ (shared_after c.requires.0.inputs c.requires.0.place c.add_square.ensures.is).below

pub add_pair-requires : goal.add_pair-requires
add_pair-requires c =
    let b = shared_after c.requires.0.inputs c.requires.0.place c.add_square.ensures.is in
    (shared_after b.inputs b.place c.loop-j.invariant.is, c.requires.1, omega arith)

pub loop-j-preserved : goal.loop-j-preserved
loop-j-preserved c =
    let p = set_from c.args.p in
    terms_more (both_terms p (key_in p c.args.list.now) c.args.m c.args.i) c.loop-j.j c.loop-j.invariant c.add_pair.ensures

pub returns : goal.returns
returns c =
    let e : c.loop-j.j ≡ c.args.i = omega arith in
    gains_row (key_in (set_from c.args.p) c.args.list.now) c.args.m c.args.i e c.add_square.ensures c.loop-j.invariant

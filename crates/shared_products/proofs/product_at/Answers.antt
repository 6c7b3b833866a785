-- `product_at`: each row is added to a sum that is below q, and all rows are the product.
-- Assumes nothing.
use Rattle.std.proofs.Common.{◌≡◌, arith}
use Rattle.definitions.specs.Parameters.{monomial_count}
use Rattle.definitions.proofs.Parameters.{key-degree-most}
use Rattle.parameters.specs.Answers.{set_from}
use Rattle.mask_products.proofs.Sums.{terms_none, terms_more}
use Rattle.shared_products.specs.Sharing.{key_in, row_of_pairs}
use Rattle.shared_products.proofs.Terms.{shared_set, shared_after, rows_product}
use Rattle.shared_products.proofs.product_at.Goals as goal

pub monomial_count-i-end-requires : goal.monomial_count-i-end-requires
monomial_count-i-end-requires c = omega (arith, key-degree-most _ (shared_set c.requires.0))

pub loop-i-init : goal.loop-i-init
loop-i-init c = terms_none _ (shared_after c.requires.0 c.requires.1 c.clear_sum.ensures).below

pub add_row-requires : goal.add_row-requires
add_row-requires c =
    let b = shared_after c.requires.0 c.requires.1 c.clear_sum.ensures in
    (shared_after b.inputs b.place c.loop-i.invariant.is, omega (arith, c.monomial_count-i-end.ensures))

pub loop-i-preserved : goal.loop-i-preserved
loop-i-preserved c =
    let p = set_from c.args.p in
    terms_more (row_of_pairs p (key_in p c.args.list.now) c.args.m) c.loop-i.i c.loop-i.invariant c.add_row.ensures

pub returns : goal.returns
returns c =
    let e : c.loop-i.i ≡ monomial_count c.args.p.set.dx = omega (arith, c.monomial_count-i-end.ensures) in
    rows_product (key_in (set_from c.args.p) c.args.list.now) c.args.m c.requires.0.one-degree c.clear_sum.ensures (rw (← e) c.loop-i.invariant)

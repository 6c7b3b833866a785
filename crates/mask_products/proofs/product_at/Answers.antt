-- `product_at`: after i turns the terms of the key's first i elements are added, to a sum that began at 0.
-- Assumes nothing.
use Rattle.std.proofs.Common.{◌≡◌, arith}
use Rattle.definitions.specs.Parameters.{monomial_count}
use Rattle.definitions.specs.Calls.{polynomial_from}
use Rattle.definitions.proofs.Parameters.{key-degree-most}
use Rattle.parameters.specs.Answers.{set_from}
use Rattle.mask_products.specs.Products.{element_terms, Adding}
use Rattle.mask_products.proofs.Sums.{inputs-set, adding_after, terms_none, terms_more, terms-product}
use Rattle.mask_products.proofs.product_at.Goals as goal
use Rattle.mask_products.proofs.product_at.Goals.{After-clear_sum}

-- the cleared sum
begun : (c : After-clear_sum) → Adding (set_from c.args.p) c.args.m c.args.public.now c.clear_sum.new.work
begun c = adding_after c.requires.0 c.requires.1 c.clear_sum.ensures

pub monomial_count-i-end-requires : goal.monomial_count-i-end-requires
monomial_count-i-end-requires c = omega (arith, key-degree-most _ (inputs-set c.requires.0))

pub loop-i-init : goal.loop-i-init
loop-i-init c = terms_none _ (begun (goal.at.loop-i-init c).After-clear_sum).below

pub add_element-requires : goal.add_element-requires
add_element-requires c =
    let b = begun (goal.at.add_element-requires c).After-clear_sum in
    (adding_after b.inputs b.place c.loop-i.invariant.is, omega (arith, c.monomial_count-i-end.ensures))

pub loop-i-preserved : goal.loop-i-preserved
loop-i-preserved c =
    let p = set_from c.args.p in
    terms_more (element_terms p (polynomial_from p c.args.public.now) c.args.m) c.loop-i.i c.loop-i.invariant c.add_element.ensures

pub returns : goal.returns
returns c =
    let e : c.loop-i.i ≡ monomial_count c.args.p.set.dx = omega (arith, c.monomial_count-i-end.ensures) in
    terms-product (polynomial_from (set_from c.args.p) c.args.public.now) c.args.m c.clear_sum.ensures (rw (← e) c.loop-i.invariant)

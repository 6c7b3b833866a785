-- `add_element`: after j turns the first j terms of the mask are added, and after the last all of them.
-- Assumes nothing.
use Rattle.std.proofs.Common.{arith}
use Rattle.definitions.specs.Calls.{polynomial_from}
use Rattle.definitions.proofs.Parameters.{mask-degree-most}
use Rattle.parameters.specs.Answers.{set_from}
use Rattle.mask_products.specs.Products.{pair_term}
use Rattle.mask_products.proofs.Sums.{inputs-set, adding_after, terms_none, terms_more}
use Rattle.mask_products.proofs.add_element.Goals as goal

pub monomial_count-j-end-requires : goal.monomial_count-j-end-requires
monomial_count-j-end-requires c = omega (arith, mask-degree-most _ (inputs-set c.requires.0.inputs))

pub loop-j-init : goal.loop-j-init
loop-j-init c = terms_none _ c.requires.0.below

pub add_pair-requires : goal.add_pair-requires
add_pair-requires c =
    (adding_after c.requires.0.inputs c.requires.0.place c.loop-j.invariant.is, c.requires.1, omega (arith, c.monomial_count-j-end.ensures))

pub loop-j-preserved : goal.loop-j-preserved
loop-j-preserved c =
    let p = set_from c.args.p in
    terms_more (pair_term p (polynomial_from p c.args.public.now) c.args.m c.args.i) c.loop-j.j c.loop-j.invariant c.add_pair.ensures

-- After j turns the first j terms of the mask are added.
-- Assumes nothing.
use Rattle.definitions.specs.Calls.{polynomial_from}
use Rattle.parameters.specs.Answers.{set_from}
use Rattle.mask_products.specs.Products.{pair_term, first_terms, SumGains}
use Rattle.mask_products.proofs.add_element.Given as goal

abbrev pub invariant-loop-j : goal.invariant-loop-j
invariant-loop-j l =
    SumGains (set_from l.p) (first_terms l.j (pair_term (set_from l.p) (polynomial_from (set_from l.p) l.public) l.m l.i)) l.initial.work l.work

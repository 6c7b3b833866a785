-- After i turns the terms of the key's first i elements are added.
-- Assumes nothing.
use Rattle.definitions.specs.Calls.{polynomial_from}
use Rattle.parameters.specs.Answers.{set_from}
use Rattle.mask_products.specs.Products.{first_terms, element_terms, SumGains}
use Rattle.mask_products.proofs.product_at.Given as goal

abbrev pub invariant-loop-i : goal.invariant-loop-i
invariant-loop-i l =
    SumGains (set_from l.p) (first_terms l.i (element_terms (set_from l.p) (polynomial_from (set_from l.p) l.public) l.m)) l.initial.work l.work

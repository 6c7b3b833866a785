-- `product_at`: after i turns the first i rows of pairs are added, to a sum that began at 0, and all rows are the product.
-- Assumes nothing.
use Rattle.parameters.specs.Answers.{set_from}
use Rattle.mask_products.specs.Products.{first_terms, SumGains}
use Rattle.shared_products.specs.Sharing.{key_in, row_of_pairs}
use Rattle.shared_products.proofs.product_at.Given as goal

abbrev pub invariant-loop-i : goal.invariant-loop-i
invariant-loop-i l =
    SumGains (set_from l.p) (first_terms l.i (row_of_pairs (set_from l.p) (key_in (set_from l.p) l.list) l.m)) l.initial.work l.work

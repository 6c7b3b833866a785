-- `add_row`: the square is added first; after j turns the first j pairs are added too.
-- Assumes nothing.
use Rattle.parameters.specs.Answers.{set_from}
use Rattle.mask_products.specs.Products.{first_terms, SumGains}
use Rattle.shared_products.specs.Sharing.{key_in, both_terms}
use Rattle.shared_products.proofs.add_row.Given as goal

abbrev pub invariant-loop-j : goal.invariant-loop-j
invariant-loop-j l =
    SumGains (set_from l.p) (first_terms l.j (both_terms (set_from l.p) (key_in (set_from l.p) l.list) l.m l.i)) l.initial.work l.work

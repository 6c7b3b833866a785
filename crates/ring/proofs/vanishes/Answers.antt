-- `ring::vanishes` meets its contract: `all` asks of each place what `every` asks.
-- Assumes nothing.
use Rattle.std.proofs.Common.{refl, eqb, get_or, rules, tests, ◌∙◌}
use Rattle.std.proofs.lemmas.Iterator.{YieldsList-from_range}
use Rattle.std.proofs.lemmas.Iterator.Search.{all_from_yields_List}
use Rattle.ring.proofs.Zeros.{range-every}
use Rattle.ring.proofs.vanishes.Goals as goal

pub returns : goal.returns
returns c =
    let a = c.args in
    let e = all_from_yields_List (λ i. eqb (get_or a.work.now i 0) 0) _ _ c.all.result c.all.ensures.ran (YieldsList-from_range a.from a.end _ refl refl) (λ x b q k. search (rules, tests)) in
    e ∙ range-every _ a.from _

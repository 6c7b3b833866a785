-- `prepare`: each turn writes one element of the key and its product, by the mask as it was at entry.
-- Assumes nothing.
use Rattle.std.proofs.Common.{ℕ, ◌+◌, ◌*◌, ◌<◌, ◌≡◌, ◌∙◌, ap, List, get_or, arith}
use Rattle.definitions.specs.Parameters.{monomial_count}
use Rattle.definitions.specs.Calls.{polynomial_from}
use Rattle.definitions.proofs.Parameters.{key-degree-most}
use Rattle.parameters.specs.Answers.{set_from}
use Rattle.mask_products.specs.Products.{mask_in}
use Rattle.mask_products.proofs.Sums.{inputs-set}
use Rattle.shared_products.specs.Sharing.{element_prepared}
use Rattle.shared_products.proofs.Terms.{prepared_more}
use Rattle.shared_products.proofs.prepare.Goals as goal

pub monomial_count-i-end-requires : goal.monomial_count-i-end-requires
monomial_count-i-end-requires c = omega (arith, key-degree-most _ (inputs-set c.requires.0))

pub loop-i-preserved : goal.loop-i-preserved
loop-i-preserved c =
    let p = set_from c.args.p in
    let inv = c.loop-i.invariant in
    let key = polynomial_from p c.args.public.now in
    let below : c.loop-i.i < monomial_count c.args.p.set.dx = omega (arith, c.monomial_count-i-end.ensures) in
    let told : c.prepare_element.new.list ≡ element_prepared p key (mask_in p c.args.work.now) c.loop-i.i c.loop-i.list =
    c.prepare_element.ensures.prepared ∙ ap (λ (w : List ℕ). element_prepared p key (λ j h. get_or w (j * p.n + h) 0) c.loop-i.i c.loop-i.list) inv.0 in (
      c.prepare_element.ensures.mask_kept ∙ inv.0,
      c.prepare_element.auto.work ∙ inv.1,
      c.prepare_element.auto.list ∙ inv.2,
      prepared_more below (omega (arith, inv.2, c.requires.2)) inv.3 told,
    )

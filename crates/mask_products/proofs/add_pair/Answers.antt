-- `add_pair` leaves the sum where the pair's product is another monomial, and otherwise loads the key's element and adds the product.
-- Assumes nothing.
use Rattle.std.proofs.Common.{◌≡◌, ◌*◌, ◌∙◌, true, refl, ap, arith}
use native.Mathlib.Nat.{mul-one}
use mathlib.Core.Bool.{not}
use Rattle.definitions.specs.Calls.{polynomial_from}
use Rattle.definitions.proofs.Parameters.{key-degree-most, mask-degree-most}
use Rattle.definitions.proofs.Ring.{conv_cong}
use Rattle.parameters.specs.Answers.{set_from}
use Rattle.monomials.proofs.Table.{flag_one}
use Rattle.ring.proofs.Work.{Wrote, wrote, inside_ring}
use Rattle.mask_products.specs.Products.{pair_term}
use Rattle.mask_products.proofs.Sums.{inputs-set, inputs-room, mask-few, key_below, spare_mask, spare_sum, gains_spare}
use Rattle.mask_products.proofs.add_pair.Goals as goal
use Rattle.mask_products.proofs.add_pair.Goals.{After-load_key}

pub same_monomial-requires : goal.same_monomial-requires
same_monomial-requires c =
    let set = inputs-set c.requires.0.inputs in
    (key-degree-most _ set, mask-degree-most _ set, c.requires.1, c.requires.2, c.requires.0.place)

-- the key's element in part 6
loaded : (c : After-load_key) → Wrote (6 * c.args.p.set.n) c.args.p.set.n (polynomial_from (set_from c.args.p) c.args.public.now c.args.i) c.args.work.now c.load_key.new.work
loaded c = wrote (omega (arith, inputs-room c.requires.0.inputs)) c.load_key.ensures

pub multiply_mask-requires-clause-work_exact : goal.multiply_mask-requires-clause-work_exact
multiply_mask-requires-clause-work_exact c =
    let g = c.requires.0.inputs in
    ((loaded (goal.at.multiply_mask-requires-clause-work_exact c).After-load_key).as_long ∙ g.work-exact, mask-few g c.requires.2)

pub multiply_mask-requires-clause-in_ring : goal.multiply_mask-requires-clause-in_ring
multiply_mask-requires-clause-in_ring c =
    let g = c.requires.0.inputs in
    let w = loaded (goal.at.multiply_mask-requires-clause-in_ring c).After-load_key in (
      inside_ring w (key_below g c.args.i c.requires.1),
      λ k l. rw (spare_mask (set_from c.args.p) w) (g.mask c.args.j c.requires.2 k l),
      spare_sum (set_from c.args.p) w c.requires.0.below,
    )

pub returns : goal.returns
returns c =
    let p = set_from c.args.p in
    let w = loaded (goal.at.returns c).After-load_key in
    let same : c.same_monomial.result ≡ true = cc in
    let one = flag_one c.same_monomial.result c.same_monomial.ensures (ap not same) in
    gains_spare (pair_term p (polynomial_from p c.args.public.now) c.args.m c.args.i c.args.j) w c.multiply_mask.ensures
    (λ k l. conv_cong c.args.p.set.n w.inside (λ i b. refl) k ∙ rw (one, mul-one))

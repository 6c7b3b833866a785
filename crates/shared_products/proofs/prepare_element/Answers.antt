-- `prepare_element` copies the key element once it is loaded, and its product with the mask's element once it is taken.
-- Assumes nothing.
use Rattle.std.proofs.Common.{ℕ, ◌*◌, ◌<◌, refl, ◌∙◌, subst, arith}
use native.Mathlib.Nat.{zero-add}
use Rattle.definitions.specs.Parameters.{monomial_count}
use Rattle.definitions.specs.Ring.{conv}
use Rattle.definitions.specs.Calls.{polynomial_from}
use Rattle.definitions.proofs.Parameters.{modulus_positive}
use Rattle.definitions.proofs.Ring.{conv_cong}
use Rattle.parameters.specs.Answers.{set_from}
use Rattle.ring.proofs.Work.{Wrote, wrote, inside_ring}
use Rattle.mask_products.specs.Products.{mask_in, KeyAndMask, SumIs}
use Rattle.mask_products.proofs.Sums.{part_room, inputs-set, inputs-room, key-few, key_below, inputs-kept, spare_mask, spare_sum, sum_in_ring, sum_then, gains_spare}
use Rattle.shared_products.proofs.Terms.{element_prepared_lem}
use Rattle.shared_products.proofs.prepare_element.Goals as goal
use Rattle.shared_products.proofs.prepare_element.Goals.{After-clear_sum, After-load_key, After-multiply_mask}

-- the key and the mask once the sum is cleared
begun : (c : After-clear_sum) → KeyAndMask (set_from c.args.p) c.args.public.now c.clear_sum.new.work
begun c = inputs-kept c.requires.key_and_mask.0 c.clear_sum.ensures.mask c.clear_sum.ensures.as_long

-- the key's element in part 6
filled : (c : After-load_key) →
    Wrote (6 * c.args.p.set.n) c.args.p.set.n (polynomial_from (set_from c.args.p) c.args.public.now c.args.i) c.clear_sum.new.work c.load_key.new.work
filled c = wrote (omega (arith, c.clear_sum.ensures.as_long, inputs-room c.requires.key_and_mask.0)) c.load_key.ensures

-- the product of the key's element and the mask's
squared : (c : After-multiply_mask) →
    SumIs (set_from c.args.p)
    (λ mask. conv c.args.p.set.n (polynomial_from (set_from c.args.p) c.args.public.now c.args.i) (mask c.args.i)) c.args.work.now c.multiply_mask.new.work
squared c =
    let w = wrote (omega (arith, c.clear_sum.ensures.as_long, inputs-room c.requires.key_and_mask.0)) c.load_key.ensures in
    let key = polynomial_from (set_from c.args.p) c.args.public.now in
    sum_then _ c.clear_sum.ensures
    (gains_spare (λ mask. conv c.args.p.set.n (key c.args.i) (mask c.args.i)) w c.multiply_mask.ensures (λ k l. conv_cong c.args.p.set.n w.inside (λ h b. refl) k))
    (λ k l. zero-add _)

pub diagonal_at-diagonal-requires : goal.diagonal_at-diagonal-requires
diagonal_at-diagonal-requires c = key-few c.requires.key_and_mask.0 c.requires.key_and_mask.2

pub load_key-requires : goal.load_key-requires
load_key-requires c = (begun (goal.at.load_key-requires c).After-clear_sum, c.requires.key_and_mask.2)

pub copy_from-requires : goal.copy_from-requires
copy_from-requires c =
    let inside = part_room c.args.p.set.n c.args.i (monomial_count c.args.p.set.dx) c.requires.key_and_mask.2 in (
      omega (arith, inside, c.requires.list_room),
      omega (arith, (filled (goal.at.copy_from-requires c).After-load_key).as_long, c.clear_sum.ensures.as_long, inputs-room c.requires.key_and_mask.0),
    )

pub multiply_mask-requires-clause-work_exact : goal.multiply_mask-requires-clause-work_exact
multiply_mask-requires-clause-work_exact c =
    let g = begun (goal.at.multiply_mask-requires-clause-work_exact c).After-clear_sum in
    let w = filled (goal.at.multiply_mask-requires-clause-work_exact c).After-load_key in
    (w.as_long ∙ g.work-exact, key-few g c.requires.key_and_mask.2)

pub multiply_mask-requires-clause-in_ring : goal.multiply_mask-requires-clause-in_ring
multiply_mask-requires-clause-in_ring c =
    let g = begun (goal.at.multiply_mask-requires-clause-in_ring c).After-clear_sum in
    let w = filled (goal.at.multiply_mask-requires-clause-in_ring c).After-load_key in
    let low = subst (λ (d : ℕ). c.args.i < monomial_count d) c.requires.key_and_mask.1 c.requires.key_and_mask.2 in (
      inside_ring w (key_below g c.args.i c.requires.key_and_mask.2),
      λ k l. rw (spare_mask (set_from c.args.p) w) (g.mask c.args.i low k l),
      spare_sum (set_from c.args.p) w (sum_in_ring (modulus_positive _ (inputs-set g)) c.clear_sum.ensures),
    )

pub copy_from-requires-2 : goal.copy_from-requires-2
copy_from-requires-2 c =
    let inside = part_room c.args.p.set.n c.args.i (monomial_count c.args.p.set.dx) c.requires.key_and_mask.2 in (
      omega (arith, inside, c.requires.list_room, c.diagonal_at-diagonal.ensures),
      omega (arith, (squared (goal.at.copy_from-requires-2 c).After-multiply_mask).as_long, inputs-room c.requires.key_and_mask.0),
    )

pub returns-clause-mask_kept : goal.returns-clause-mask_kept
returns-clause-mask_kept c = (squared (goal.at.returns-clause-mask_kept c).After-multiply_mask).mask

pub returns-clause-prepared : goal.returns-clause-prepared
returns-clause-prepared c =
    let p = set_from c.args.p in
    let w = filled (goal.at.returns-clause-prepared c).After-load_key in
    let s = squared (goal.at.returns-clause-prepared c).After-multiply_mask in
    element_prepared_lem p (polynomial_from p c.args.public.now) (mask_in p c.args.work.now) c.args.i c.args.list.now c.diagonal_at-diagonal.ensures
    c.copy_from.ensures w.inside c.copy_from-2.ensures s.sum

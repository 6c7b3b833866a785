-- `draw_mask` draws into the words that the mask's elements fill.
-- Assumes nothing.
use Rattle.std.proofs.Common.{◌*◌, ◌≤◌, ◌≡◌, length, arith}
use native.Mathlib.Nat.{mul-le-mul_right}
use lib.ListN.{length-take}
use Rattle.definitions.proofs.Parameters.{accepted-set, modulus_positive, mask-degree-most}
use Rattle.parameters.specs.Answers.{set_from}
use Rattle.definitions.proofs.Monomials.{count-six}
use Rattle.mask_products.proofs.Sums.{work_words}
use Rattle.encryption.proofs.Mask.{mask_lent}
use Rattle.encryption.proofs.draw_mask.Goals as goal
use Rattle.encryption.proofs.draw_mask.Goals.{After-monomial_count}

-- the mask is at most six parts
within : (c : After-monomial_count) → c.monomial_count.result * c.args.p.set.n ≤ 6 * c.args.p.set.n
within c =
    let low = mask-degree-most (set_from c.args.p) (accepted-set _ c.args.p.accepted) in
    mul-le-mul_right c.args.p.set.n (omega (arith, count-six c.args.p.set.dr low, c.monomial_count.ensures))

pub monomial_count-requires : goal.monomial_count-requires
monomial_count-requires c = omega (arith, mask-degree-most (set_from c.args.p) (accepted-set _ c.args.p.accepted))

pub overflow_mul-end : goal.overflow_mul-end
overflow_mul-end c =
    record { fits = omega (arith, within (goal.at.overflow_mul-end c).After-monomial_count, (accepted-set (set_from c.args.p) c.args.p.accepted).ring_most) }

pub slice_bounds-draw_below-end : goal.slice_bounds-draw_below-end
slice_bounds-draw_below-end c =
    omega (arith, within (goal.at.slice_bounds-draw_below-end c).After-monomial_count, work_words (set_from c.args.p) c.args.work.now c.requires)

pub slice_bounds-draw_below-end-2 : goal.slice_bounds-draw_below-end-2
slice_bounds-draw_below-end-2 c =
    let end = c.monomial_count.result * c.args.p.set.n in
    omega (
      arith,
      length-take end c.args.work.now,
      within (goal.at.slice_bounds-draw_below-end-2 c).After-monomial_count,
      work_words (set_from c.args.p) c.args.work.now c.requires,
    )

pub draw_below-requires : goal.draw_below-requires
draw_below-requires c =
    let set = accepted-set _ c.args.p.accepted in
    (modulus_positive _ set, omega (arith, set.modulus-most))

pub returns : goal.returns
returns c =
    let room : length c.args.work.now ≡ 8 * c.args.p.set.n = work_words (set_from c.args.p) c.args.work.now c.requires in
    mask_lent (set_from c.args.p) c.args.random.now c.args.work.now c.draw_below.new.words c.draw_below.result c.monomial_count.ensures
    (omega (arith, within (goal.at.returns c).After-monomial_count)) c.draw_below.auto.words c.draw_below.ensures

-- `multiply_sums`: with X_i + X_j in part 6 and r_i + r_j in part i their product is added, and taking r_j away again restores part i.
-- Assumes nothing.
use Rattle.std.proofs.Common.{◌+◌, ◌*◌, ◌%◌, ◌≤◌, ◌<◌, ◌∙◌, arith}
use native.Mathlib.Nat.{mod-lt}
use mathlib.Core.Logic.{inr}
use Rattle.definitions.specs.Parameters.{monomial_count}
use Rattle.definitions.specs.Ring.{InRing}
use Rattle.definitions.proofs.Parameters.{modulus_positive}
use Rattle.parameters.specs.Answers.{set_from}
use Rattle.ring.specs.Work.{part}
use Rattle.ring.proofs.Work.{wrote}
use Rattle.mask_products.proofs.Sums.{part_room, mask_at, sum_cong}
use Rattle.shared_products.specs.Sharing.{key_in, pair_sum}
use Rattle.shared_products.proofs.Pairs.{cong_sums}
use Rattle.shared_products.proofs.Turns.{Sums, sums_stand, sums_below, third-first, third-second, sums_added}
use Rattle.shared_products.proofs.Terms.{shared_set, shared_room, place-few}
use Rattle.shared_products.proofs.multiply_sums.Goals as goal
use Rattle.shared_products.proofs.multiply_sums.Goals.{After-load_sum, After-add}

-- the parts of r_i and r_j
at : (c : After-load_sum) → c.args.i * c.args.p.set.n + c.args.p.set.n ≤ 6 * c.args.p.set.n
at c = part_room c.args.p.set.n c.args.i 6 (place-few c.requires.0 c.requires.1)

apart : (c : After-load_sum) → c.args.j * c.args.p.set.n + c.args.p.set.n ≤ c.args.i * c.args.p.set.n
apart c = part_room c.args.p.set.n c.args.j c.args.i c.requires.2

mask_first : (c : After-load_sum) → InRing c.args.p.set.q c.args.p.set.n (part c.args.work.now (c.args.i * c.args.p.set.n))
mask_first c k l = rw (← mask_at (set_from c.args.p) c.args.work.now (place-few c.requires.0 c.requires.1) l) (c.requires.0.mask c.args.i c.requires.1 k l)

mask-second : (c : After-load_sum) → InRing c.args.p.set.q c.args.p.set.n (part c.args.work.now (c.args.j * c.args.p.set.n))
mask-second c k l =
    let second : c.args.j < monomial_count c.args.p.set.dx = omega (arith, c.requires.1, c.requires.2) in
    rw (← mask_at (set_from c.args.p) c.args.work.now (place-few c.requires.0 second) l) (c.requires.0.mask c.args.j second k l)

-- both sums stand
stand : (c : After-add) →
    Sums (set_from c.args.p) c.args.i c.args.j (λ k. pair_sum (key_in (set_from c.args.p) c.args.list.now) c.args.i c.args.j k % c.args.p.set.q)
    c.args.work.now c.add.new.work
stand c =
    let low = part_room c.args.p.set.n c.args.i 6 (place-few c.requires.0 c.requires.1) in
    let w = wrote (omega (arith, shared_room c.requires.0)) c.load_sum.ensures in
    sums_stand (place-few c.requires.0 c.requires.1) c.requires.2 w (wrote (omega (arith, w.as_long, shared_room c.requires.0)) c.add.ensures)

pub add-requires-clause-n_in_bounds : goal.add-requires-clause-n_in_bounds
add-requires-clause-n_in_bounds c =
    let s = (goal.at.add-requires-clause-n_in_bounds c).After-load_sum in
    let g = c.requires.0 in
    let low = at s in
    let far = apart s in
    let w = wrote (omega (arith, shared_room g)) c.load_sum.ensures in
    (omega (arith, w.as_long, shared_room g), omega (arith, w.as_long, shared_room g), inr far, omega (arith, (shared_set g).modulus-most))

pub add-requires-clause-in_ring : goal.add-requires-clause-in_ring
add-requires-clause-in_ring c =
    let s = (goal.at.add-requires-clause-in_ring c).After-load_sum in
    let g = c.requires.0 in
    let low = at s in
    let far = apart s in
    let w = wrote (omega (arith, shared_room g)) c.load_sum.ensures in (
      λ k l. rw (w.before (c.args.i * c.args.p.set.n + k) (omega arith)) (mask_first s k l),
      λ k l. rw (w.before (c.args.j * c.args.p.set.n + k) (omega arith)) (mask-second s k l),
    )

pub multiply_mask-requires-clause-work_exact : goal.multiply_mask-requires-clause-work_exact
multiply_mask-requires-clause-work_exact c =
    let g = c.requires.0 in
    ((stand (goal.at.multiply_mask-requires-clause-work_exact c).After-add).as_long ∙ g.work-exact, place-few g c.requires.1)

pub multiply_mask-requires-clause-in_ring : goal.multiply_mask-requires-clause-in_ring
multiply_mask-requires-clause-in_ring c =
    let g = c.requires.0 in
    let pos = modulus_positive _ (shared_set g) in
    sums_below (place-few g c.requires.1) c.requires.2 pos (λ k l. mod-lt _ pos) c.requires.3 (stand (goal.at.multiply_mask-requires-clause-in_ring c).After-add)

pub subtract-requires-clause-n_in_bounds : goal.subtract-requires-clause-n_in_bounds
subtract-requires-clause-n_in_bounds c =
    let s = (goal.at.subtract-requires-clause-n_in_bounds c).After-load_sum in
    let g = c.requires.0 in
    let low = at s in
    let far = apart s in
    let long = c.multiply_mask.ensures.is.as_long ∙ (stand (goal.at.subtract-requires-clause-n_in_bounds c).After-add).as_long ∙ shared_room g in
    (omega arith, omega arith, inr far, omega (arith, (shared_set g).modulus-most))

pub subtract-requires-clause-in_ring : goal.subtract-requires-clause-in_ring
subtract-requires-clause-in_ring c =
    let s = (goal.at.subtract-requires-clause-in_ring c).After-load_sum in
    let both = stand (goal.at.subtract-requires-clause-in_ring c).After-add in
    let g = c.requires.0 in
    let few = place-few g c.requires.1 in (
      λ k l. rw (third-first few c.requires.2 both c.multiply_mask.ensures k l) (mod-lt _ (modulus_positive _ (shared_set g))),
      λ k l. rw (third-second few c.requires.2 both c.multiply_mask.ensures k l) (mask-second s k l),
    )

pub returns : goal.returns
returns c =
    let s = (goal.at.returns c).After-load_sum in
    let both = stand (goal.at.returns c).After-add in
    let g = c.requires.0 in
    let low = at s in
    let t = c.multiply_mask.ensures in
    let long = t.is.as_long ∙ both.as_long ∙ shared_room g in
    let gained = sums_added (place-few g c.requires.1) c.requires.2 both t (mask_first s) (mask-second s) (wrote (omega arith) c.subtract.ensures) in
    record { is = sum_cong gained.is (λ k l. cong_sums c.args.p.set.n c.args.p.set.q _ _ _ _ _ k) }

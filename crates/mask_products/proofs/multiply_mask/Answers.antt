-- `multiply_mask`: the factors are part 6 and the mask's element in part j, and the product is added to part 7.
-- Assumes nothing.
use Rattle.std.proofs.Common.{ℕ, ◌+◌, ◌%◌, ◌∙◌, refl, sym, ap, arith}
use native.Mathlib.Nat.{add_comm}
use mathlib.Core.Logic.{inr}
use Rattle.definitions.proofs.Parameters.{accepted-set, modulus_positive}
use Rattle.definitions.proofs.Ring.{conv_cong}
use Rattle.definitions.proofs.MultiplyAdd.{multiply_add_at}
use Rattle.parameters.specs.Answers.{set_from}
use Rattle.ring.proofs.Work.{wrote}
use Rattle.mask_products.specs.Products.{sum_in}
use Rattle.mask_products.proofs.Sums.{work_words, part_room, mask_at, sum_wrote}
use Rattle.mask_products.proofs.multiply_mask.Goals as goal

pub returns : goal.returns
returns c =
    let p = set_from c.args.p in
    let w = c.args.work.now in
    let asked = c.requires.work_exact in
    let room = work_words p w asked.0 in
    record {
      is =
          sum_wrote p (wrote (omega arith) c.multiply_add.ensures.added) (λ k l.
          multiply_add_at p.q p.n _ _ _ k
          ∙ ap (λ (x : ℕ). x % p.q)
          (add_comm _ _ ∙ ap (λ (x : ℕ). sum_in p w k + x) (conv_cong p.n (λ i b. refl) (λ i b. sym (mask_at p w asked.1 b)) k)));
    }

pub multiply_add-requires-clause-n_in_bounds : goal.multiply_add-requires-clause-n_in_bounds
multiply_add-requires-clause-n_in_bounds c =
    let p = set_from c.args.p in
    let asked = c.requires.work_exact in
    let set = accepted-set p c.args.p.accepted in
    let room = work_words p c.args.work.now asked.0 in
    let inside = part_room p.n c.args.j 6 asked.1 in
    (omega arith, omega arith, omega arith, set.ring_most, modulus_positive p set, omega arith, omega (arith, set.modulus-most))

pub multiply_add-requires-clause-apart : goal.multiply_add-requires-clause-apart
multiply_add-requires-clause-apart c =
    let p = set_from c.args.p in
    let few = c.requires.work_exact.1 in
    let rings = c.requires.in_ring in
    let inside = part_room p.n c.args.j 6 few in
    (inr (omega arith), inr (omega arith), rings.0, λ k l. rw (← mask_at p c.args.work.now few l) (rings.1 k l), rings.2)

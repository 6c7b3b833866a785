-- `products::fold_sums` meets its contract: a turn reduces the two sums that fold to its place, and adds the coefficient that stands there.
-- Assumes nothing.
use Rattle.std.proofs.Common.{ℕ, ◌+◌, ◌%◌, ◌∙◌, ap, get_or, arith}
use native.Mathlib.Nat.{mod-lt, mod-add-mod}
use Rattle.ring.specs.Work.{part}
use Rattle.ring.proofs.Work.{writing_none, writing_one, writing_own_ring, writing_all}
use Rattle.products.proofs.fold_sums.Goals as goal

pub loop-k-init : goal.loop-k-init
loop-k-init c = writing_none (omega arith)

pub overflow_add-low : goal.overflow_add-low
overflow_add-low c = omega (arith, c.requires.sums_fit c.loop-k.k (omega arith))

pub sum-requires : goal.sum-requires
sum-requires c =
    let exact = c.args.modulus.exact in
    (omega (arith, c.remainder-s.ensures, mod-lt), writing_own_ring c.loop-k.invariant c.requires.n_in_bounds.2 (omega arith), exact.most)

pub loop-k-preserved : goal.loop-k-preserved
loop-k-preserved c =
    let q = c.args.modulus.q in
    let f : ℕ → ℕ = λ j. get_or c.args.low.now j 0 in
    let k = c.loop-k.k in
    let x = part c.loop-k.work c.args.c k in
    writing_one (λ j x. (f j + f (c.args.n + j) + x) % q) c.loop-k.invariant (omega arith)
    (c.sum.ensures ∙ ap (λ (s : ℕ). (s + x) % q) c.remainder-s.ensures ∙ mod-add-mod (f k + f (c.args.n + k)) q x)

pub returns : goal.returns
returns c = writing_all c.loop-k.invariant (omega arith)

-- `karatsuba::add_halves` meets its contract: each sum is a copy of the lower half to which the upper one is added, and leaves
-- all other words.
-- Assumes nothing.
use Rattle.std.proofs.Common.{arith}
use Rattle.ring.proofs.Work.{wrote, inside_ring}
use Rattle.karatsuba.proofs.Steps.{kept_ring, kept_at, wrote_sum, halves_added}
use Rattle.karatsuba.proofs.add_halves.Goals as goal

pub add-requires-clause-in_ring : goal.add-requires-clause-in_ring
add-requires-clause-in_ring c =
    let a = c.args in
    let ring = c.requires.in_ring.0 in
    let w = wrote (omega arith) c.copy.ensures in (
      inside_ring w (λ k l. ring k (omega arith)),
      λ k l. kept_at a.a a.words.now c.copy.new.work w.before c.requires.h_bound.0 ring _ (omega arith) (omega arith),
    )

pub add-requires-2-clause-in_ring : goal.add-requires-2-clause-in_ring
add-requires-2-clause-in_ring c =
    let a = c.args in
    let first = wrote_sum a.q a.a {words = a.words.now} (omega arith) (omega arith) c.copy.ensures c.add.ensures in
    let ring = kept_ring a.b a.words.now c.add.new.work c.requires.h_bound.1 first.before c.requires.in_ring.1 in
    let w = wrote (omega arith) c.copy-2.ensures in (
      inside_ring w (λ k l. ring k (omega arith)),
      λ k l. kept_at a.b c.add.new.work c.copy-2.new.work w.before (omega arith) ring _ (omega arith) (omega arith),
    )

pub returns : goal.returns
returns c =
    let a = c.args in
    let first = wrote_sum a.q a.a {words = a.words.now} (omega arith) (omega arith) c.copy.ensures c.add.ensures in
    halves_added c.requires.h_bound.1 first
    (wrote_sum a.q a.b {words = c.add.new.work} (omega arith) (omega arith) c.copy-2.ensures c.add-2.ensures)

-- `karatsuba::multiply` meets its contract: a leaf is multiplied row by row, and at a level the product is put together from the three of
-- the level below, which is `level_multiplied`.
-- Assumes nothing.
use Rattle.std.proofs.Common.{arith}
use Rattle.karatsuba.proofs.Identity.{three_ring}
use Rattle.karatsuba.proofs.Halves.{placing_sums, placing_upper, summed_ring, lowered_ring, three, level_multiplied}
use Rattle.karatsuba.proofs.Levels.{level_none, leaf_multiplied}
use Rattle.karatsuba.proofs.+multiply.Goals as goal

-- ---- a leaf
pub returns-then-h-eq0 : goal.returns-then-h-eq0
returns-then-h-eq0 t c =
    let places = c.requires.placing.0 in
    leaf_multiplied (level_none c.args.h.halvable c.if-h-eq0.true) (omega arith) c.multiply.ensures

-- ---- a level
pub multiply-requires-2 : goal.multiply-requires-2
multiply-requires-2 t c =
    let level = c.below-below.ensures in
    let half = level.half in
    let places = c.requires.placing.0 in (
      omega (arith, c.decreases, level.less),
      (
        (placing_sums half places c.add_halves.auto.words, c.doubled-r.ensures.most),
        summed_ring c.args.modulus.exact.least c.doubled-r.ensures c.add_halves.ensures (λ k l. c.requires.in_ring.1 k (omega arith)),
      ),
    )

pub multiply-requires-4 : goal.multiply-requires-4
multiply-requires-4 t c =
    let level = c.below-below.ensures in
    let places = c.requires.placing.0 in (
      omega (arith, c.decreases, level.less),
      (
        (placing_upper level.half places (omega arith), c.requires.placing.1),
        lowered_ring level.half places c.add_halves.ensures c.multiply-2.ensures c.multiply-3.ensures c.requires.in_ring,
      ),
    )

pub join-requires-clause-in_ring : goal.join-requires-clause-in_ring
join-requires-clause-in_ring t c =
    let places = c.requires.placing.0 in
    three_ring c.args.modulus.exact.least
    (three c.below-below.ensures.half places c.add_halves.ensures c.multiply-2.ensures c.multiply-3.ensures c.multiply-4.ensures)

pub returns : goal.returns
returns t c =
    let places = c.requires.placing.0 in
    level_multiplied c.below-below.ensures.half places c.add_halves.ensures c.multiply-2.ensures c.multiply-3.ensures c.multiply-4.ensures
    c.args.modulus.exact.least c.join.ensures

-- A turn puts the rows of its group behind those of the groups before, and keeps the groups to come.
-- Assumes nothing.
use Rattle.std.proofs.Common.{ℕ, ◌+◌, ◌*◌, ◌≤◌, List, length, take, refl, ap, arith}
use native.Mathlib.Nat.{zero-mul}
use Rattle.definitions.proofs.Octets.{place_end}
use Rattle.packing.proofs.Fields.{lent_rest, given_rest}
use Rattle.unpacking.specs.Lanes.{rows_of, groups_of}
use Rattle.unpacking.proofs.Lanes.{spread_step}
use Rattle.unpacking.proofs.spread_groups.Goals as goal

pub loop-g-init : goal.loop-g-init
unfolding groups_of
loop-g-init c = let none = zero-mul (c.args.many * 8) in (rw none, refl)

pub loop-g-preserved : goal.loop-g-preserved
loop-g-preserved c =
    let a = c.args in
    let l = c.loop-g in
    let all : a.groups * (a.many * 8) ≤ length l.words = rw l.auto.words c.requires.3 in
    let room : l.g * (a.many * 8) + a.many * 2 * 4 ≤ length l.words = omega (arith, place_end l.g (a.many * 8) c.loop-g-test.true all) in
    let at = l.g * (a.many * 8) in
    let rows = ap (λ (rest : List ℕ). rows_of a.b (a.many * 2) (take 4 rest)) (lent_rest at l.words) in
    let put = given_rest at (a.many * 2 * 4) l.words _ (rw rows at c.spread_rows.ensures) in
    spread_step a.b a.many l.g a.words.now l.words (omega arith) room put l.invariant

-- Each group moves the run one step on, and it stops where no word or no group is left. Assumes nothing.
use Rattle.std.proofs.Common.{refl, arith, length-set}
use Prim.Native.Nat.{zero-le}
use Rattle.draws.proofs.Runs.{going_start, going_kept, going_dropped, going_exhausted, going_complete}
use Rattle.draws.proofs.draw_below.Goals as goal
use Rattle.draws.proofs.draw_below.Goals.{else-coefficients-test, then-coefficients-test+then-random-at}

pub coefficients-init : goal.coefficients-init
coefficients-init c = (zero-le, refl, going_start _ _ _ c.requires.0 (omega arith))

pub loop-at-preserved : goal.loop-at-preserved
loop-at-preserved c =
    going_dropped c.loop-at.invariant c.octets_of_coefficient-width.ensures c.group_mask-mask.ensures c.number.ensures (omega arith) (omega arith)
    (omega arith)

pub coefficients-preserved : goal.coefficients-preserved
coefficients-preserved c =
    let kept = going_kept c.loop-at.invariant c.octets_of_coefficient-width.ensures c.group_mask-mask.ensures c.number.ensures (omega arith)
    (omega arith) (omega arith) in
    (simp length-set (omega arith), simp length-set (omega arith), kept)

pub returns-then-i-words : goal.returns-then-i-words
returns-then-i-words c =
    elim c.coefficients-test.branch [
      | else-coefficients-test w ↦ absurd (omega arith)
      | then-coefficients-test+then-random-at w ↦ going_exhausted w.loop-at.invariant c.coefficients.invariant.1 (omega arith)
          (omega (arith, c.octets_of_coefficient-width.ensures))
    ]

pub returns : goal.returns
returns c =
    elim c.coefficients-test.branch [
      | else-coefficients-test w ↦ going_complete c.coefficients.invariant.2 c.coefficients.invariant.1 (omega arith) w.groups-is w.dropped-is
      | then-coefficients-test+then-random-at w ↦ absurd (omega arith)
    ]

-- `draw_below` is right because each group moves the run one step on, and it stops where no word or no group is left. Assumes nothing.
use Rattle.std.proofs.Common.{◌-◌, ◌≤◌, ◌≡◌, length}
use Rattle.draws.proofs.Runs.{Going}
use Rattle.draws.proofs.draw_below.Given as goal

abbrev pub invariant-loop-at : goal.invariant-loop-at
invariant-loop-at l = Going l.q l.random l.words l.i l.at l.groups l.dropped

abbrev pub decreases-loop-at : goal.decreases-loop-at
decreases-loop-at l = length l.random - l.at

abbrev pub invariant-coefficients : goal.invariant-coefficients
invariant-coefficients l =
    (l.i ≤ length l.words) × (length l.words ≡ length l.initial.words) × Going l.q l.random l.words l.i l.at l.groups l.dropped

abbrev pub decreases-coefficients : goal.decreases-coefficients
decreases-coefficients l = length l.words - l.i

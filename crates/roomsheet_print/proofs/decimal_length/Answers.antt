-- Each power that the number reaches is counted.
-- Assumes nothing.
use Rattle.std.proofs.Common.{arith}
use Rattle.roomsheet_print.proofs.Printing.{powers_more, powers_reached}
use Rattle.roomsheet_print.proofs.decimal_length.Goals as goal
use Rattle.roomsheet_print.proofs.decimal_length.Goals.{then-power-x, else-power-x}

pub loop-power-preserved : goal.loop-power-preserved
loop-power-preserved c =
    powers_more _ _ _ _ c.loop-power.invariant c.loop-power-test.true
    (λ h. elim c.if-power-x.branch [ then-power-x w ↦ w.digits-is | else-power-x w ↦ absurd (omega arith) ])
    (λ h. elim c.if-power-x.branch [ then-power-x w ↦ absurd (omega arith) | else-power-x w ↦ w.digits-is ])

pub returns : goal.returns
returns c = powers_reached _ _ _ c.loop-power.invariant (omega arith)

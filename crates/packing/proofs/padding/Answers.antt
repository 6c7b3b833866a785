-- Each octet is looked at from the one that holds bit `used` on: in the first one past the used bits, in the others at all.
-- Assumes nothing.
use Rattle.std.proofs.Common.{sym}
use Rattle.packing.proofs.Unused.{padding_number_clear, padding_number-set}
use Rattle.packing.proofs.padding.Goals as goal

pub returns-then-octets-i-ne0 : goal.returns-then-octets-i-ne0
returns-then-octets-i-ne0 c =
    let l = c.loop-i in
    sym (padding_number-set _ _ l.i l.invariant.0 c.loop-i-test.true (c.type_inv.octets l.i).fits (rw (← l.invariant.1) c.if-octets-i-ne0.true))

pub returns : goal.returns
returns c = sym (padding_number_clear _ _ c.loop-i.i c.loop-i.invariant.2 c.loop-i-test.false)

-- `reduction::remainder` meets its contract: the quotient by the reciprocal is never too large and at most one too small.
-- Assumes nothing.
use Rattle.std.proofs.Common.{◌+◌, ◌*◌, ◌≤◌, ◌<◌, refl}
use Rattle.reduction.proofs.Laws.{quotient_le, quotient_near, rest_small, rest_below, rest_above}
use Rattle.reduction.proofs.remainder.Goals as goal
use Rattle.reduction.proofs.remainder.Goals.{After-high_half}

low : (c : After-high_half) → c.high_half.result * c.args.m.q ≤ c.args.s
low c =
    quotient_le 18446744073709551616 18446744073709551615 c.args.m.q c.args.s _ c.high_half.result refl c.args.m.exact.least c.args.m.exact.inverse
    c.high_half.ensures

near : (c : After-high_half) → c.args.s < c.high_half.result * c.args.m.q + c.args.m.q + c.args.m.q
near c =
    quotient_near 18446744073709551616 18446744073709551615 c.args.m.q c.args.s _ c.high_half.result refl c.args.m.exact.least c.args.m.exact.inverse
    c.high_half.ensures c.ranges.s.fits

pub overflow_sub-r : goal.overflow_sub-r
overflow_sub-r c = low (goal.at.overflow_sub-r c).After-high_half

pub overflow_cast-t : goal.overflow_cast-t
overflow_cast-t c = record { fits = rest_small c.high_half.result (near c) c.args.m.exact.most }

pub returns-then-t-q : goal.returns-then-t-q
returns-then-t-q c = rest_below c.high_half.result (low (goal.at.returns-then-t-q c).After-high_half) c.if-t-q.true

pub returns-else-t-q : goal.returns-else-t-q
returns-else-t-q c =
    let h = (goal.at.returns-else-t-q c).After-high_half in rest_above c.high_half.result (low h) (near h) c.if-t-q.false

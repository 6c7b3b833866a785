-- `rows::add_last_rows` meets its contract: at each place that the four rows reach, their sum is added; at all others they hold nothing, and
-- the four rows after them are past the last.
-- Assumes nothing.
use Rattle.std.proofs.Common.{◌+◌, refl, arith, length}
use Rattle.ring.proofs.Work.{writing_none, writing_more, writing_own, writing_all}
use Rattle.rows.proofs.Rows.{row-sum_asked, row-sum_rows, last_rows_added}
use Rattle.rows.proofs.add_last_rows.Goals as goal

pub loop-k-init : goal.loop-k-init
loop-k-init c = writing_none (omega arith)

pub row_sum-requires : goal.row_sum-requires
row_sum-requires c =
    let r = row-sum_asked c.requires.operands.0 c.args.i (c.loop-k.k + 4) c.factors_from-f.ensures (omega arith) in
    record { a0_bound = r.0; k_in_bounds = r.1 }

-- the sum of this turn, and the word as it was at entry, with room for the rows
pub overflow_add-low-in-loop-k : goal.overflow_add-low-in-loop-k
overflow_add-low-in-loop-k c =
    let p = c.args.i + c.loop-k.k in
    let x = row-sum_rows c.requires.operands.0 c.args.i (c.loop-k.k + 4) c.factors_from-f.ensures p (omega arith) c.row_sum.ensures in
    omega (arith, x, writing_own c.loop-k.invariant, c.requires.sums_fit p)

pub loop-k-preserved : goal.loop-k-preserved
loop-k-preserved c =
    let p = c.args.i + c.loop-k.k in
    let x = row-sum_rows c.requires.operands.0 c.args.i (c.loop-k.k + 4) c.factors_from-f.ensures p (omega arith) c.row_sum.ensures in
    writing_more c.loop-k.invariant refl (omega arith) (omega (arith, x, writing_own c.loop-k.invariant))

pub returns : goal.returns
returns c =
    last_rows_added (length c.args.a.now) _ _ c.args.i c.args.low.now c.requires.operands.2 c.requires.operands.3
    (writing_all c.loop-k.invariant (omega arith))

-- `rows::add_cut_rows` meets its contract: at each place that the eight rows reach, their two sums are cut and each half goes to its word; at
-- all others the rows hold nothing.
-- Assumes nothing.
use Rattle.std.proofs.Common.{◌+◌, ◌%◌, ◌/◌, refl, arith, length}
use Rattle.ring.proofs.Work.{writing_none, writing_more, writing_own, writing_all}
use Rattle.rows.proofs.Rows.{row-sum_asked, row-sum_rows, rows_added}
use Rattle.rows.proofs.add_cut_rows.Goals as goal

pub loop-k-init : goal.loop-k-init
loop-k-init c = (writing_none (omega arith), writing_none (omega arith))

pub row_sum-s-requires : goal.row_sum-s-requires
row_sum-s-requires c =
    let r = row-sum_asked c.requires.operands.0 c.args.i (c.loop-k.k + 4) c.factors_from-f.ensures (omega arith) in
    record { a0_bound = r.0; k_in_bounds = r.1 }

pub row_sum-t-requires : goal.row_sum-t-requires
row_sum-t-requires c =
    let r = row-sum_asked c.requires.operands.0 (c.args.i + 4) c.loop-k.k c.factors_from-g.ensures (omega arith) in
    record { a0_bound = r.0; k_in_bounds = r.1 }

-- the two words of this turn are as they were at entry, and below 2^63
pub overflow_add-low-in-loop-k-2 : goal.overflow_add-low-in-loop-k-2
overflow_add-low-in-loop-k-2 c = omega (arith, writing_own c.loop-k.invariant.0, c.requires.sums_fit.0 (c.args.i + c.loop-k.k))

pub overflow_add-high-in-loop-k-2 : goal.overflow_add-high-in-loop-k-2
overflow_add-high-in-loop-k-2 c = omega (arith, writing_own c.loop-k.invariant.1, c.requires.sums_fit.1 (c.args.i + c.loop-k.k))

pub loop-k-preserved : goal.loop-k-preserved
loop-k-preserved c =
    let p = c.args.i + c.loop-k.k in
    let x = row-sum_rows c.requires.operands.0 c.args.i (c.loop-k.k + 4) c.factors_from-f.ensures p (omega arith) c.row_sum-s.ensures in
    let y = row-sum_rows c.requires.operands.0 (c.args.i + 4) c.loop-k.k c.factors_from-g.ensures p (omega arith) c.row_sum-t.ensures in (
      writing_more c.loop-k.invariant.0 refl (omega arith) (omega (arith, x, y, writing_own c.loop-k.invariant.0)),
      writing_more c.loop-k.invariant.1 refl (omega arith) (omega (arith, x, y, writing_own c.loop-k.invariant.1)),
    )

pub returns-clause-low_added : goal.returns-clause-low_added
returns-clause-low_added c =
    rows_added (λ s. s % 4398046511104) refl (length c.args.a.now) _ _ c.args.i c.args.low.now c.requires.operands.2
    (writing_all c.loop-k.invariant.0 (omega arith))

pub returns-clause-high_added : goal.returns-clause-high_added
returns-clause-high_added c =
    rows_added (λ s. s / 4398046511104) refl (length c.args.a.now) _ _ c.args.i c.args.high.now c.requires.operands.3
    (writing_all c.loop-k.invariant.1 (omega arith))

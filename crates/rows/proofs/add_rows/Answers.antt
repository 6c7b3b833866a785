-- `rows::add_rows` meets its contract: at each place that the eight rows reach, their two sums are added; at all others the rows hold nothing.
-- Assumes nothing.
use Rattle.std.proofs.Common.{◌≡◌, ℕ, ◌+◌, refl, ap, ap₂, arith, length}
use Rattle.definitions.specs.Ring.{element_of}
use Rattle.ring.specs.Work.{part}
use Rattle.ring.proofs.Work.{writing_none, writing_one, writing_own, writing_all}
use Rattle.rows.specs.Rows.{eight_rows}
use Rattle.rows.proofs.Rows.{row-sum_asked, row-sum_rows, rows_added}
use Rattle.rows.proofs.add_rows.Goals as goal
use Rattle.rows.proofs.add_rows.Goals.{After-row_sum-in-loop-k}

pub loop-k-init : goal.loop-k-init
loop-k-init c = writing_none (omega arith)

pub row_sum-requires : goal.row_sum-requires
row_sum-requires c =
    let r = row-sum_asked c.requires.operands.0 c.args.i (c.loop-k.k + 4) c.factors_from-f.ensures (omega arith) in
    record { a0_bound = r.0; k_in_bounds = r.1 }

pub row_sum-requires-in-loop-k : goal.row_sum-requires-in-loop-k
row_sum-requires-in-loop-k c =
    let r = row-sum_asked c.requires.operands.0 (c.args.i + 4) c.loop-k.k c.factors_from-g.ensures (omega arith) in
    record { a0_bound = r.0; k_in_bounds = r.1 }

-- the two sums of this turn
both : (c : After-row_sum-in-loop-k) → let p = c.args.i + c.loop-k.k in
    c.row_sum.result + c.row_sum-in-loop-k.result ≡ eight_rows (λ s. s) (length c.args.a.now) (element_of c.args.a.now) (part c.args.row.now 7) c.args.i p
both c =
    let p = c.args.i + c.loop-k.k in
    let x = row-sum_rows c.requires.operands.0 c.args.i (c.loop-k.k + 4) c.factors_from-f.ensures p (omega arith) c.row_sum.ensures in
    let y = row-sum_rows c.requires.operands.0 (c.args.i + 4) c.loop-k.k c.factors_from-g.ensures p (omega arith) c.row_sum-in-loop-k.ensures in
    ap₂ ◌+◌ x y

-- with the word as it was at entry, which leaves room for them
pub overflow_add-low : goal.overflow_add-low
overflow_add-low c =
    record { fits = omega (arith, both (goal.at.overflow_add-low c).After-row_sum-in-loop-k, c.requires.sums_fit (c.args.i + c.loop-k.k)) }

pub overflow_add-low-in-loop-k-2 : goal.overflow_add-low-in-loop-k-2
overflow_add-low-in-loop-k-2 c =
    let sums = both (goal.at.overflow_add-low-in-loop-k-2 c).After-row_sum-in-loop-k in
    record { fits = omega (arith, sums, writing_own c.loop-k.invariant, c.requires.sums_fit (c.args.i + c.loop-k.k)) }

pub loop-k-preserved : goal.loop-k-preserved
loop-k-preserved c =
    writing_one (λ j x. x + eight_rows (λ s. s) (length c.args.a.now) (element_of c.args.a.now) (part c.args.row.now 7) c.args.i (c.args.i + j)) c.loop-k.invariant (omega arith)
    (ap (λ (s : ℕ). part c.loop-k.low c.args.i c.loop-k.k + s) (both (goal.at.loop-k-preserved c).After-row_sum-in-loop-k))

pub returns : goal.returns
returns c =
    rows_added (λ s. s) refl (length c.args.a.now) _ _ c.args.i c.args.low.now c.requires.operands.2 (writing_all c.loop-k.invariant (omega arith))

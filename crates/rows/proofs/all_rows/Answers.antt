-- `rows::all_rows` meets its contract: after i rows each place holds the sum of the first i rows; rows past the last hold nothing.
-- Assumes nothing.
use Rattle.std.proofs.Common.{◌+◌, arith, length}
use Rattle.definitions.specs.Ring.{element_of}
use Rattle.ring.specs.Work.{part}
use Rattle.rows.proofs.Rows.{Rows, rows_none, rows_more, rows_fit, rows_all}
use Rattle.rows.proofs.all_rows.Goals as goal
use Rattle.rows.proofs.all_rows.Goals.{then-i-a, else-i-a, Joined-i-a}

pub loop-i-init : goal.loop-i-init
loop-i-init c = rows_none c.requires.operands.1

pub add_rows-requires-clause-sums_fit : goal.add_rows-requires-clause-sums_fit
add_rows-requires-clause-sums_fit c = λ k. rows_fit c.loop-i.invariant k (c.requires.sums_fit k)

pub add_last_rows-requires-clause-sums_fit : goal.add_last_rows-requires-clause-sums_fit
add_last_rows-requires-clause-sums_fit c = λ k. rows_fit c.loop-i.invariant k (c.requires.sums_fit k)

-- what a turn leaves
turn : (c : Joined-i-a) → Rows (length c.args.a.now) (element_of c.args.a.now) (part c.args.row.now 7) (c.loop-i.i + 8) c.if-i-a.low
turn c =
    let so-far = c.loop-i.invariant in
    elim c.if-i-a.branch [
      | then-i-a w ↦ rw w.low-is (rows_more so-far (omega arith) w.add_rows.auto.low w.add_rows.ensures)
      | else-i-a w ↦ rw w.low-is (rows_more so-far (omega arith) w.add_last_rows.auto.low w.add_last_rows.ensures)
    ]

pub loop-i-preserved : goal.loop-i-preserved
loop-i-preserved c = turn (goal.at.loop-i-preserved c).Joined-i-a

pub returns : goal.returns
returns c = rows_all c.loop-i.invariant (omega arith)

-- the exit after the last turn, where fewer rows are left than are added at a time
pub returns-after-i-a : goal.returns-after-i-a
returns-after-i-a c = rows_all (turn (goal.at.returns-after-i-a c).Joined-i-a) (omega arith)

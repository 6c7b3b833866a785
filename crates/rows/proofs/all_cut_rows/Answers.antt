-- `rows::all_cut_rows` meets its contract: after i rows the halves hold the sum of the first i rows; rows past the last hold nothing.
-- Assumes nothing.
use Rattle.std.proofs.Common.{◌+◌, arith, length}
use Rattle.definitions.specs.Ring.{element_of}
use Rattle.ring.specs.Work.{part}
use Rattle.rows.proofs.Rows.{CutRows, cut_rows_none, cut_rows_more, cut_rows_all}
use Rattle.rows.proofs.all_cut_rows.Goals as goal
use Rattle.rows.proofs.all_cut_rows.Goals.{After-add_cut_rows}

pub loop-i-init : goal.loop-i-init
loop-i-init c = cut_rows_none c.requires.1 c.requires.2

-- what a turn leaves
turn : (c : After-add_cut_rows) → let call = c.add_cut_rows in
    CutRows (length c.args.a.now) (element_of c.args.a.now) (part c.args.row.now 7) (c.loop-i.i + 8) call.new.low call.new.high
turn c =
    let o = c.requires.0 in
    let call = c.add_cut_rows in
    cut_rows_more c.loop-i.invariant (omega arith) (call.auto.low, call.auto.high) o.first_small o.second_small call.ensures.low_added
    call.ensures.high_added

pub loop-i-preserved : goal.loop-i-preserved
loop-i-preserved c = turn (goal.at.loop-i-preserved c).After-add_cut_rows

pub returns : goal.returns
returns c = cut_rows_all c.loop-i.invariant c.requires.0.few (omega arith)

-- the exit after the last turn, where fewer rows are left than are added at a time
pub returns-2 : goal.returns-2
returns-2 c = cut_rows_all (turn (goal.at.returns-2 c).After-add_cut_rows) c.requires.0.few (omega arith)

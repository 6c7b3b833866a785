-- Each turn puts a row of four coefficients behind those that are there, from words read before.
-- Assumes nothing.
use Rattle.std.proofs.Common.{◌*◌, ◌≡◌, refl, arith}
use Rattle.definitions.proofs.Powers.{shl_one}
use Rattle.unpacking.specs.Lanes.{rows_of}
use Rattle.unpacking.proofs.Lanes.{row_step, rows_end}
use Rattle.unpacking.proofs.spread_rows.Goals as goal

pub loop-j-init : goal.loop-j-init
unfolding rows_of
loop-j-init c = (refl, refl)

pub loop-j-preserved : goal.loop-j-preserved
loop-j-preserved c =
    let a = c.args in
    let l = c.loop-j in
    row_step a.words.now l.words a.b l.j (shl_one a.b 32 (omega arith)) (omega arith) (omega arith) refl l.invariant

pub returns : goal.returns
returns c =
    let end : c.args.rows ≡ c.loop-j.j = omega arith in
    rw end (rows_end c.args.words.now _ _ (c.loop-j.j * 4) c.loop-j.invariant)

-- `read_some` meets its contract: what is read stands behind what is kept.
-- Assumes nothing.
use Rattle.std.proofs.Common.{◌-◌, arith}
use Rattle.roomsheet_run.proofs.Runs.{read_place}
use Rattle.roomsheet_run.proofs.read_some.Goals as goal

pub returns-clause-read : goal.returns-clause-read
returns-clause-read g c = λ well.
    let r = c.read.ensures.read well in
    (r.0, rw (read_place c.args.kept (c.read_end-end.result - c.args.kept) c.read.result c.args.input.now c.read.new.place (omega arith) c.read.ensures.within) r.1, r.2)

-- `read_all` meets its contract: between reads the octets kept are a line without its end, and what was written answers all but these and
-- what is left to read.
-- Assumes nothing.
use Rattle.std.proofs.Common.{◌≡◌, take, false, IfSome}
use Rattle.roomsheet_run.specs.Kept.{KeptLine}
use Rattle.roomsheet_run.proofs.Runs.{Going}
use Rattle.roomsheet_run.proofs.read_all.Given as goal

abbrev pub invariant-loop : goal.invariant-loop
invariant-loop g l =
    record {
      line : KeptLine l.input l.kept;
      going : l.streams.failed ≡ false
          → IfSome (g.R.Read.remaining l.fn.streams.from)
          (λ octets. Going octets (g.R.Read.remaining l.streams.from) (g.W.Write.contents l.fn.streams.to) (g.W.Write.contents l.streams.to) (take l.kept l.input));
    }

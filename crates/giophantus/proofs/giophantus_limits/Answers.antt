-- `giophantus_limits` writes the bound and the headroom of the set that the constructor accepted.
-- Assumes nothing.
use Rattle.std.proofs.Common.{ap}
use Rattle.definitions.specs.Refusals.{Answer, number, output}
use Rattle.definitions.specs.Parameters.{Limits, LimitsExit, limits_of, limits_answer, limits_exit}
use Rattle.parameters.specs.Answers.{limits_from}
use Rattle.parameters.proofs.Answers.{accepted-answer, refused-answer}
use Rattle.giophantus.proofs.giophantus_limits.Goals as goal

abbrev leaves : Limits → Answer Limits → LimitsExit
leaves old a = record { refusal = number a; limits = output (λ l. l) a old }

pub returns-in-Ok : goal.returns-in-Ok
unfolding limits_exit limits_answer
returns-in-Ok c =
    ap (leaves _) (accepted-answer _ c.new.ensures c.in-Ok.is limits_of (limits_from c.limits-x.result) c.limits-x.ensures)

pub returns-in-Err : goal.returns-in-Err
unfolding limits_exit limits_answer
returns-in-Err c = rw c.from.ensures (ap (leaves _) (refused-answer _ c.new.ensures c.in-Err.is _))

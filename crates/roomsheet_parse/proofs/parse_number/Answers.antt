-- `parse_number` meets its contract: the digits read are a number where there is one, or several with the first above zero.
-- Assumes nothing.
use Rattle.std.proofs.Common.{drop, length-drop, arith}
use Rattle.roomsheet_parse.specs.Numbers.{field_at}
use Rattle.roomsheet_parse.proofs.Parts.{length-up_to}
use Rattle.roomsheet_parse.proofs.Numbers.{number_none, number_empty, number-zero, number-one, number_many}
use Rattle.roomsheet_parse.proofs.parse_number.Goals as goal

pub returns-in_err-number : goal.returns-in_err-number
returns-in_err-number c = rw c.from_residual.ensures (number_none _ c.in_err-number.ensures)

pub returns-then-number-from : goal.returns-then-number-from
returns-then-number-from c = number_empty _ (omega (arith, c.in_ok-number.ensures.2))

pub returns-then-number-from-2 : goal.returns-then-number-from-2
returns-then-number-from-2 c =
    rw (number-one (field_at c.args.line.now c.args.from) (omega (arith, c.in_ok-number.ensures.2))) c.in_ok-number.ensures

pub bounds-line-from : goal.bounds-line-from
bounds-line-from c =
    omega (arith, c.in_ok-number.ensures.2, length-up_to 32 (drop c.args.from c.args.line.now), length-drop c.args.from c.args.line.now)

pub returns-then-line-from-le-ZERO : goal.returns-then-line-from-le-ZERO
returns-then-line-from-le-ZERO c =
    number-zero c.args.line.now c.args.from (omega (arith, c.in_ok-number.ensures.2)) c.if-line-from-le-ZERO.true

pub returns : goal.returns
returns c =
    rw (number_many c.args.line.now c.args.from (omega (arith, c.in_ok-number.ensures.2)) c.if-line-from-le-ZERO.false) c.in_ok-number.ensures

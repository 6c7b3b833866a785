-- `put_limits` meets its contract: the numbers stand one behind the other, as `limits_text` has them.
-- Assumes nothing.
use Rattle.std.proofs.Common.{arith}
use Rattle.definitions.specs.Roomsheet.{limits_text}
use Rattle.roomsheet_print.proofs.Printing.{decimal_text-le, appended_append}
use Rattle.roomsheet_print.proofs.Answers.put_limits.Goals as goal

pub put_next-requires : goal.put_next-requires
put_next-requires c = omega (arith, decimal_text-le)

pub put_next-requires-2 : goal.put_next-requires-2
put_next-requires-2 c = omega (arith, decimal_text-le)

pub returns : goal.returns
unfolding limits_text
returns c =
    appended_append _ _ _ _ _ c.put_number.ensures (appended_append _ _ _ _ _ c.put_next.ensures c.put_next-2.ensures)

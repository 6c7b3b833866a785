-- `put_number` meets its contract: the digits stand behind what stood there, and a number has at most 10.
-- Assumes nothing.
use Rattle.std.proofs.Common.{arith}
use Rattle.roomsheet_print.proofs.Printing.{decimal_length-le}
use Rattle.roomsheet_print.proofs.Answers.put_number.Goals as goal

pub overflow_add-end : goal.overflow_add-end
overflow_add-end c = record { fits = omega (arith, decimal_length-le c.args.x) }

pub slice_bounds-write_digits-end : goal.slice_bounds-write_digits-end
slice_bounds-write_digits-end c = omega (arith, decimal_length-le c.args.x)

-- `decimal_length` meets its contract: it has counted the powers of ten that the number reaches, of those compared.
-- Assumes nothing.
use Rattle.std.proofs.Common.{◌≡◌, ◌+◌, leb, take}
use Rattle.std.specs.List.{count_by}
use Rattle.roomsheet_print.proofs.Printing.{powers}
use Rattle.roomsheet_print.proofs.decimal_length.Given as goal

abbrev pub invariant-loop-power : goal.invariant-loop-power
invariant-loop-power l = l.digits ≡ count_by (λ p. leb p l.x) (take l.power-index powers) + 1

-- `draw_secret` is right because each element before the place was dropped, and it stops at one of degree n - 1 or where no group is left.
-- Assumes nothing.
use Rattle.std.proofs.Common.{◌≡◌, length}
use Rattle.parameters.specs.Numbers.{numbers_from}
use Rattle.draws.proofs.Secrets.{Settling}
use Rattle.draws.proofs.draw_secret.Given as goal

abbrev pub invariant-loop-k : goal.invariant-loop-k
invariant-loop-k l = (length l.words ≡ length l.initial.words) × Settling (numbers_from l.fn.set) l.random l.k

-- `prepare`: after i turns the first i elements of the key and the first i products stand in the list, and the mask is as it was.
-- Assumes nothing.
use Rattle.std.proofs.Common.{◌*◌, ◌≡◌, length, take}
use Rattle.definitions.specs.Calls.{polynomial_from}
use Rattle.parameters.specs.Answers.{set_from}
use Rattle.mask_products.specs.Products.{mask_in}
use Rattle.shared_products.specs.Sharing.{Prepared}
use Rattle.shared_products.proofs.prepare.Given as goal

abbrev pub invariant-loop-i : goal.invariant-loop-i
invariant-loop-i l =
    (take (6 * l.p.set.n) l.work ≡ take (6 * l.p.set.n) l.initial.work)
    × (length l.work ≡ length l.initial.work)
    × (length l.list ≡ length l.initial.list)
    × Prepared (set_from l.p) l.i (polynomial_from (set_from l.p) l.public) (mask_in (set_from l.p) l.initial.work) l.list

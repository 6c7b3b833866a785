-- `products::folded` meets its contract: a sum may be reduced before a third coefficient is added.
-- Assumes nothing.
use native.Mathlib.Nat.{mod-add-mod}
use Rattle.products.proofs.folded.Goals as goal

pub returns : goal.returns
returns c = rw (c.sum.ensures, mod-add-mod) at c.sum-2.ensures

-- `products::multiply_add` meets its contract, since both ways to multiply do.
-- Assumes nothing.
use Rattle.std.proofs.Common.{◌≡◌, List, ℕ}
use Rattle.ring.specs.Work.{product_added}
use Rattle.products.specs.Products.{MultipliedInPlace}
use Rattle.products.proofs.Folding.{multiplied_in_place}
use Rattle.products.proofs.multiply_add.Goals as goal
use Rattle.products.proofs.multiply_add.Goals.{After-with_reciprocal-modulus}

-- what the equation says of the three
three : (c : After-with_reciprocal-modulus) {new : List ℕ}
    → new ≡ product_added c.args.n c.with_reciprocal-modulus.result.q c.args.a c.args.b c.args.c c.args.work.now
    → MultipliedInPlace c.args.q c.args.n c.args.a c.args.b c.args.c c.args.work.now new
three c e = multiplied_in_place c.requires.n_in_bounds.2 c.requires.apart.0 c.requires.apart.1 (rw c.with_reciprocal-modulus.ensures.0 at e)

pub returns-then-q-top-le-UNCUT-clause-multiplied_in_place : goal.returns-then-q-top-le-UNCUT-clause-multiplied_in_place
returns-then-q-top-le-UNCUT-clause-multiplied_in_place c =
    three (goal.at.returns-then-q-top-le-UNCUT-clause-multiplied_in_place c).After-with_reciprocal-modulus c.short.ensures

pub returns-else-n-le-SHORT-clause-multiplied_in_place : goal.returns-else-n-le-SHORT-clause-multiplied_in_place
returns-else-n-le-SHORT-clause-multiplied_in_place c =
    three (goal.at.returns-else-n-le-SHORT-clause-multiplied_in_place c).After-with_reciprocal-modulus c.multiply_long.ensures

-- `rows::multiply_cut` meets its contract: the halves of the rows sum to the product, which is put together again and reduced.
-- Assumes nothing.
use Rattle.std.proofs.Common.{◌+◌, refl, ◌∙◌, arith}
use native.Mathlib.Nat.{le_of_lt}
use Rattle.ring.specs.Work.{part}
use Rattle.rows.specs.Rows.{Surrounded}
use Rattle.rows.proofs.Rows.{linear-row, row_operands, lent_surrounded, reduced_lent}
use Rattle.rows.proofs.multiply_cut.Goals as goal
use Rattle.rows.proofs.multiply_cut.Goals.{After-pad}

-- what stands at b, copied
around : (c : After-pad) → Surrounded c.args.m (part c.args.words.now c.args.b) c.pad.new.row
around c = lent_surrounded c.args.m c.args.b c.args.words.now c.requires.leaf.second c.pad.new.row c.pad.ensures

pub all_cut_rows-requires : goal.all_cut_rows-requires
all_cut_rows-requires c =
    let a = c.args in
    let leaf = c.requires.leaf in
    let small = le_of_lt a.modulus.exact.most in
    let ring = c.requires.in_ring in
    let e = around (goal.at.all_cut_rows-requires c).After-pad in
    (row_operands a.m a.a a.words.now leaf.first _ _ e leaf.few (omega arith) small small ring.0 ring.1, refl, refl)

pub returns : goal.returns
returns c =
    let a = c.args in
    let leaf = c.requires.leaf in
    reduced_lent a.at (a.m + a.m) a.modulus.q a.words.now leaf.room
    (λ k.
    (c.all_cut_rows.ensures k).whole
    ∙ linear-row a.m a.a a.words.now leaf.first _ c.pad.new.row (around (goal.at.returns c).After-pad) k)
    c.reduce_cut.ensures

-- `rows::sums` meets its contract: the rows of what stands at a with what was copied from b sum to the product, which fits a word at each place.
-- Assumes nothing.
use Rattle.std.proofs.Common.{◌∙◌, arith}
use Rattle.ring.specs.Work.{part}
use Rattle.rows.specs.Rows.{Surrounded}
use Rattle.rows.proofs.Rows.{linear_small, linear-row, row_operands, lent_surrounded}
use Rattle.rows.proofs.sums.Goals as goal
use Rattle.rows.proofs.sums.Goals.{After-pad}

-- what stands at b, copied
around : (c : After-pad) → Surrounded c.args.m (part c.args.words.now c.args.b) c.pad.new.row
around c = lent_surrounded c.args.m c.args.b c.args.words.now c.requires.m_bound.2 c.pad.new.row c.pad.ensures

pub all_rows-requires : goal.all_rows-requires
all_rows-requires c =
    let a = c.args in
    let bound = c.requires.m_bound in
    let ring = c.requires.in_ring in
    let e = around (goal.at.all_rows-requires c).After-pad in
    record {
      operands = (row_operands a.m a.a a.words.now bound.1 _ _ e bound.0 (omega arith) (omega arith) bound.6 ring.0 ring.1, bound.3);
      sums_fit =
          λ k. rw (linear-row a.m a.a a.words.now bound.1 _ _ e k) (linear_small a.m a.q a.top _ _ bound.0 bound.4 ring.0 ring.1 k);
    }

pub returns : goal.returns
returns c = λ k.
    c.all_rows.ensures k
    ∙ linear-row c.args.m c.args.a c.args.words.now c.requires.m_bound.1 _ c.pad.new.row (around (goal.at.returns c).After-pad) k

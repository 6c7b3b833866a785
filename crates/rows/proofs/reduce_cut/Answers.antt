-- `rows::reduce_cut` meets its contract: a turn puts the sums of its place together and reduces them; 2^42 × high is high × (2^42 modulo q)
-- modulo q.
-- Assumes nothing.
use Rattle.std.proofs.Common.{sym, ◌∙◌, arith}
use native.Mathlib.Nat.{zero-add, mod-lt, lt_trans}
use Rattle.ring.proofs.Work.{writing_none, writing_more}
use Rattle.rows.proofs.Bounds.{folded_small, folded_cong}
use Rattle.rows.proofs.reduce_cut.Goals as goal

pub loop-k-init : goal.loop-k-init
loop-k-init c = writing_none (omega arith)

pub overflow_add-high : goal.overflow_add-high
overflow_add-high c =
    let exact = c.args.modulus.exact in
    record {
      fits =
          folded_small (c.requires.in_ring.1 c.loop-k.k (omega arith)) (lt_trans (mod-lt _ exact.least) exact.most)
          (c.requires.in_ring.0 c.loop-k.k (omega arith));
    }

pub loop-k-preserved : goal.loop-k-preserved
loop-k-preserved c =
    writing_more c.loop-k.invariant (sym (zero-add c.loop-k.k)) (omega arith) (c.remainder.ensures ∙ folded_cong _ _ _)

-- Coefficient k has the weight 2^(k × b), and 32 bits hold all of them.
-- Assumes nothing.
use Rattle.std.proofs.Common.{◌+◌, ◌≤◌, length, refl, arith}
use native.Mathlib.Nat.{mul-le-mul_right, le_trans}
use Rattle.packing.specs.Fields.{value_in}
use Rattle.packing.proofs.Shifts.{value-fits, gather_step}
use Rattle.packing.proofs.gather.Goals as goal

pub loop-k-init : goal.loop-k-init
unfolding value_in
loop-k-init c = refl

pub overflow_add-x : goal.overflow_add-x
overflow_add-x c =
    let a = c.args in
    let l = c.loop-k in
    let few : l.k + 1 ≤ length a.words.now = omega arith in
    record {
      fits =
          rw (gather_step a.words.now a.b l.k c.requires.2 c.requires.1 c.loop-k-test.true l.invariant)
          (value-fits a.words.now 0 a.b (l.k + 1) c.requires.2 (le_trans (mul-le-mul_right a.b few) c.requires.1));
    }

pub loop-k-preserved : goal.loop-k-preserved
loop-k-preserved c = gather_step c.args.words.now c.args.b c.loop-k.k c.requires.2 c.requires.1 c.loop-k-test.true c.loop-k.invariant

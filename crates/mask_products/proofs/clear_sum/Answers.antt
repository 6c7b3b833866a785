-- `clear_sum` clears the part that it lends and no other word.
-- Assumes nothing.
use Rattle.std.proofs.Common.{arith}
use Rattle.parameters.specs.Answers.{set_from}
use Rattle.mask_products.proofs.Sums.{work_words}
use Rattle.mask_products.proofs.clear_sum.Goals as goal

pub slice_bounds-clear-end : goal.slice_bounds-clear-end
slice_bounds-clear-end c = omega (arith, work_words (set_from c.args.p) c.args.work.now c.requires)

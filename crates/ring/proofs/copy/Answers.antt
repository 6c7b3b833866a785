-- `ring::copy` meets its contract: the words that are copied are those of the other part.
-- Assumes nothing.
use Rattle.std.proofs.Common.{◌≡◌, ◌+◌, ◌-◌, ◌∙◌, arith}
use mathlib.Core.List.{append_assoc}
use Rattle.definitions.proofs.Sums.{length-tabulate}
use Rattle.ring.specs.Work.{part, written}
use Rattle.ring.proofs.Work.{part_words}
use Rattle.ring.proofs.copy.Goals as goal

pub returns : goal.returns
unfolding written
returns c =
    let a = c.args in
    let whole : a.from + a.n - a.from ≡ a.n = omega arith in
    let long = length-tabulate a.n (part a.work.now a.from) in
    c.copy_within.ensures.after ∙ rw (whole, part_words a.from a.n a.work.now (omega arith), long) (simp append_assoc)

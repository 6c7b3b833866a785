-- Field k of x is x / 2^(k × b) modulo 2^b, and is stored at place k.
-- Assumes nothing.
use Rattle.std.proofs.Common.{ℕ, ◌*◌, ◌/◌, ◌%◌, ◌^◌, refl, ap, arith}
use Rattle.definitions.specs.Sequences.{tabulate}
use Rattle.definitions.proofs.Filling.{fill_step}
use Rattle.definitions.proofs.Powers.{shl_one}
use Rattle.packing.specs.Fields.{fields_of}
use Rattle.unpacking.proofs.spread.Goals as goal

pub loop-k-init : goal.loop-k-init
unfolding fields_of tabulate
loop-k-init c = refl

pub loop-k-preserved : goal.loop-k-preserved
unfolding fields_of
loop-k-preserved c =
    let a = c.args in
    let l = c.loop-k in
    fill_step (λ k. a.x / 2 ^ (k * a.b) % 2 ^ a.b) l.words l.k (omega arith) (ap (λ (m : ℕ). a.x / 2 ^ (l.k * a.b) % m) (shl_one a.b 32 (omega arith)))
    l.invariant

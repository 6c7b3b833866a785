-- `multiply_add::multiply_in_array` is right because the three elements stand side by side when they are multiplied, and the third is copied back.
-- Assumes nothing.
use Rattle.std.proofs.Common.{arith, ◌≤◌, ◌*◌, ℕ, length, replicate}
use Rattle.std.proofs.lemmas.List.{length-replicate}
use mathlib.Core.Logic.{inr}
use Rattle.definitions.proofs.Parameters.{accepted-set, modulus_positive}
use Rattle.parameters.specs.Answers.{set_from}
use Rattle.multiply_add.proofs.Beside.{beside, beside_rings, copied_back}
use Rattle.multiply_add.proofs.multiply_in_array.Goals as goal

room : (words n : ℕ) → 3 * n ≤ words → 3 * n ≤ length {A = ℕ} (replicate words 0)
room words n h = rw (length-replicate {A = ℕ} words 0) h

pub returns : goal.returns
returns g c =
    copied_back (set_from c.args.p) c.args.a.now c.args.b.now c.args.c.now _ (room _ _ c.requires.1) c.copy_from.ensures c.copy_from-2.ensures
    c.copy_from-3.ensures c.multiply_add.new.work c.requires.0.third.sized c.multiply_add.ensures.multiplied_in_place.holds c.copy_from-4.ensures

pub multiply_add-requires-clause-n_in_bounds : goal.multiply_add-requires-clause-n_in_bounds
multiply_add-requires-clause-n_in_bounds g c =
    let p = set_from c.args.p in
    let set = accepted-set p c.args.p.accepted in
    let room =
    (beside p c.args.a.now c.args.b.now c.args.c.now _ (room _ _ c.requires.1) c.copy_from.ensures c.copy_from-2.ensures c.copy_from-3.ensures).room in
    (omega arith, omega arith, omega arith, set.ring_most, modulus_positive p set, omega arith, omega (arith, set.modulus-most))

pub multiply_add-requires-clause-apart : goal.multiply_add-requires-clause-apart
multiply_add-requires-clause-apart g c =
    let rings =
    beside_rings (set_from c.args.p) c.args.a.now c.args.b.now c.args.c.now _ (room _ _ c.requires.1) c.copy_from.ensures c.copy_from-2.ensures
    c.copy_from-3.ensures c.requires.0 in
    (inr (omega arith), inr (omega arith), rings.0, rings.1, rings.2)

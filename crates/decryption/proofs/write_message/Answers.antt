-- `write_message` is right because it looks at every place past the message before it writes, and packs all n words.
-- Assumes nothing.
use Rattle.std.proofs.Common.{◌≡◌, ℕ, ◌+◌, ◌*◌, ◌≤◌, length, ◌∙◌, arith}
use Rattle.definitions.specs.Parameters.{work_length}
use Rattle.definitions.specs.Ring.{modulo}
use Rattle.definitions.proofs.Parameters.{accepted-set, small_bits-power}
use Rattle.parameters.specs.Answers.{set_from}
use Rattle.parameters.proofs.Bounds.{small_bits-within}
use Rattle.decryption.proofs.Tail.{reduced_fits, message-tail, message-written}
use Rattle.decryption.proofs.write_message.Goals as goal
use Rattle.decryption.proofs.write_message.Goals.{After-reduce}

-- the work words hold three parts and more
room : (n : ℕ) {len : ℕ} → len ≡ 8 * n → 2 * n + n ≤ len
room n e = omega arith

-- the third part lies inside the reduced words
inside : (c : After-reduce) → 2 * c.args.p.set.n + c.args.p.set.n ≤ length c.reduce.new.work
unfolding work_length
inside c = room c.args.p.set.n (c.reduce.auto.work ∙ c.requires.1)

pub reduce-requires : goal.reduce-requires
unfolding work_length
reduce-requires c = (room c.args.p.set.n c.requires.1, small_bits-power (set_from c.args.p) (accepted-set _ c.args.p.accepted).range)

pub nonzero_div-tail : goal.nonzero_div-tail
nonzero_div-tail c = omega (arith, small_bits-within c.args.p.set.l)

pub vanishes-requires : goal.vanishes-requires
vanishes-requires c = inside (goal.at.vanishes-requires c).After-reduce

pub returns-then-not-vanishes : goal.returns-then-not-vanishes
unfolding modulo
returns-then-not-vanishes c =
    message-tail (set_from c.args.p) (accepted-set _ c.args.p.accepted) c.args.work.now c.requires.1 c.bits-b.ensures c.reduce.ensures c.vanishes.ensures
    c.args.message.now c.if-not-vanishes.true

pub slice_bounds-pack-end : goal.slice_bounds-pack-end
slice_bounds-pack-end c = inside (goal.at.slice_bounds-pack-end c).After-reduce

pub pack-requires : goal.pack-requires
unfolding modulo
pack-requires c = (
  omega (arith, small_bits-within c.args.p.set.l),
  omega (arith, small_bits-within c.args.p.set.l),
  reduced_fits (set_from c.args.p) (accepted-set _ c.args.p.accepted) c.args.work.now c.requires.1 c.bits-b.ensures c.reduce.ensures,
)

pub returns : goal.returns
unfolding modulo
returns c =
    message-written (set_from c.args.p) (accepted-set _ c.args.p.accepted) c.args.work.now c.requires.1 c.bits-b.ensures c.reduce.ensures
    c.vanishes.ensures c.args.message.now c.if-not-vanishes.false c.requires.0 c.pack.ensures

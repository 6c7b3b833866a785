-- `add_message` adds the message at the constant's place, the last, and leaves every other element as it is.
-- Assumes nothing.
use Rattle.std.proofs.Common.{◌*◌, ◌≡◌, sym, ◌∙◌, length, arith}
use Rattle.definitions.specs.Parameters.{degree, small_bits}
use Rattle.definitions.specs.Monomials.{constant_term}
use Rattle.definitions.specs.Octets.{unpacked}
use Rattle.definitions.specs.Calls.{small_of}
use Rattle.definitions.proofs.Parameters.{accepted-set}
use Rattle.definitions.proofs.Packing.{length-unpacked}
use Rattle.definitions.proofs.Filling.{length_borrowed}
use Rattle.parameters.specs.Answers.{set_from}
use Rattle.parameters.proofs.Bounds.{small_bits-within}
use Rattle.mask_products.proofs.Sums.{work_words, borrowed_wrote, gains_none, gains_by}
use Rattle.ciphertext_elements.proofs.Elements.{degree-most, count_most, message_scaled, constant_term_last, constant_term-other, scaled_requires, gains_scaled}
use Rattle.ciphertext_elements.proofs.add_message.Goals as goal
use Rattle.ciphertext_elements.proofs.add_message.Goals.{After-unpack}

room : (c : After-unpack) → length c.args.work.now ≡ 8 * c.args.p.set.n
room c = work_words (set_from c.args.p) c.args.work.now c.requires.work_exact.0

-- the message's coefficients, in the part that was lent
unpacked-told : (c : After-unpack) → c.unpack.new.words ≡ unpacked (small_bits c.args.p.set.l) c.args.p.set.n c.args.message.now
unpacked-told c = rw (c.bits.ensures, length_borrowed (6 * c.args.p.set.n) c.args.p.set.n c.args.work.now (omega (arith, room c))) at c.unpack.ensures

pub overflow_add-m : goal.overflow_add-m
overflow_add-m c = record { fits = omega (arith, count_most (set_from c.args.p) (accepted-set _ c.args.p.accepted), c.requires.element) }

pub overflow_add-p : goal.overflow_add-p
overflow_add-p c = record { fits = omega (arith, degree-most (set_from c.args.p) (accepted-set _ c.args.p.accepted)) }

pub monomial_count-requires : goal.monomial_count-requires
monomial_count-requires c = degree-most (set_from c.args.p) (accepted-set _ c.args.p.accepted)

pub returns-then-m-monomial_count : goal.returns-then-m-monomial_count
returns-then-m-monomial_count c =
    let p = set_from c.args.p in
    gains_none (λ mask. constant_term (degree p) (small_of p c.args.message.now) c.args.m) c.requires.work_exact.1
    (λ k l. constant_term-other (degree p) c.args.m (small_of p c.args.message.now) k (λ e. c.if-m-monomial_count.true (e ∙ sym c.monomial_count.ensures)))

pub slice_bounds-unpack-end : goal.slice_bounds-unpack-end
slice_bounds-unpack-end c = omega (arith, work_words (set_from c.args.p) c.args.work.now c.requires.work_exact.0)

pub unpack-requires : goal.unpack-requires
unpack-requires c = rw c.bits.ensures ((small_bits-within _).least, (small_bits-within _).most)

pub add_scaled-requires-clause-n_in_bounds : goal.add_scaled-requires-clause-n_in_bounds
add_scaled-requires-clause-n_in_bounds c =
    let call = (goal.at.add_scaled-requires-clause-n_in_bounds c).After-unpack in
    let p = set_from c.args.p in
    let set = accepted-set p c.args.p.accepted in
    let w = borrowed_wrote (6 * p.n) p.n c.args.work.now (unpacked (small_bits p.l) p.n c.args.message.now) (unpacked-told call) (length-unpacked _ _ _) (omega (arith, room call)) in
    (scaled_requires p 1 (room call) w (omega (arith, set.modulus-most)) c.requires.work_exact.1 (message_scaled p set c.args.message.now)).0

pub add_scaled-requires-clause-in_ring : goal.add_scaled-requires-clause-in_ring
add_scaled-requires-clause-in_ring c =
    let call = (goal.at.add_scaled-requires-clause-in_ring c).After-unpack in
    let p = set_from c.args.p in
    let set = accepted-set p c.args.p.accepted in
    let w = borrowed_wrote (6 * p.n) p.n c.args.work.now (unpacked (small_bits p.l) p.n c.args.message.now) (unpacked-told call) (length-unpacked _ _ _) (omega (arith, room call)) in
    (scaled_requires p 1 (room call) w (omega (arith, set.modulus-most)) c.requires.work_exact.1 (message_scaled p set c.args.message.now)).1

pub returns : goal.returns
returns c =
    let call = (goal.at.returns c).After-unpack in
    let p = set_from c.args.p in
    let w = borrowed_wrote (6 * p.n) p.n c.args.work.now (unpacked (small_bits p.l) p.n c.args.message.now) (unpacked-told call) (length-unpacked _ _ _) (omega (arith, room call)) in
    gains_by (λ mask. constant_term (degree p) (small_of p c.args.message.now) c.args.m) (gains_scaled p 1 (room call) w c.add_scaled.ensures)
    (λ k l. constant_term_last p c.args.message.now c.args.m k (c.if-m-monomial_count.false ∙ c.monomial_count.ensures))

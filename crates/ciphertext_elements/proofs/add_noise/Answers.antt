-- `add_noise` fills part 6 with the noise element, whose multiples by ℓ are below q, and adds them.
-- Assumes nothing.
use Rattle.std.proofs.Common.{ℕ, ◌*◌, ◌≡◌, ap, length, drop, arith}
use Rattle.std.proofs.lemmas.List.{take_rest}
use Rattle.definitions.specs.Draws.{noise_drawn}
use Rattle.definitions.specs.Calls.{noise_of}
use Rattle.definitions.proofs.Parameters.{accepted-set}
use Rattle.parameters.specs.Answers.{set_from}
use Rattle.mask_products.proofs.Sums.{work_words, borrowed_wrote, gains_by}
use Rattle.ciphertext_elements.proofs.Elements.{length_noise, noise_at, noise_scaled, scaled_requires, gains_scaled}
use Rattle.ciphertext_elements.proofs.add_noise.Goals as goal

pub slice_bounds-draw_noise-end : goal.slice_bounds-draw_noise-end
slice_bounds-draw_noise-end c = omega (arith, work_words (set_from c.args.p) c.args.work.now c.requires.work_exact.0)

pub returns : goal.returns
returns c =
    let p = set_from c.args.p in
    let room : length c.args.work.now ≡ 8 * c.args.p.set.n = work_words p c.args.work.now c.requires.work_exact.0 in
    let noisy = noise_drawn p (drop (c.args.m * c.small_length.result) c.args.noise.now) in
    let w = borrowed_wrote (6 * p.n) p.n c.args.work.now noisy (rw take_rest at c.draw_noise.ensures) (length_noise p _) (omega arith) in
    gains_by (λ mask k. p.l * noise_of p c.args.noise.now c.args.m k) (gains_scaled p p.l room w c.add_scaled.ensures)
    (λ k l. ap (λ (x : ℕ). p.l * x) (noise_at p c.args.noise.now c.args.m k c.small_length.ensures))

pub add_scaled-requires-clause-n_in_bounds : goal.add_scaled-requires-clause-n_in_bounds
add_scaled-requires-clause-n_in_bounds c =
    let p = set_from c.args.p in
    let set = accepted-set p c.args.p.accepted in
    let room : length c.args.work.now ≡ 8 * c.args.p.set.n = work_words p c.args.work.now c.requires.work_exact.0 in
    let noisy = noise_drawn p (drop (c.args.m * c.small_length.result) c.args.noise.now) in
    let w = borrowed_wrote (6 * p.n) p.n c.args.work.now noisy (rw take_rest at c.draw_noise.ensures) (length_noise p _) (omega arith) in
    (scaled_requires p p.l room w (omega (arith, set.modulus-most)) c.requires.work_exact.1 (noise_scaled p set _)).0

pub add_scaled-requires-clause-in_ring : goal.add_scaled-requires-clause-in_ring
add_scaled-requires-clause-in_ring c =
    let p = set_from c.args.p in
    let set = accepted-set p c.args.p.accepted in
    let room : length c.args.work.now ≡ 8 * c.args.p.set.n = work_words p c.args.work.now c.requires.work_exact.0 in
    let noisy = noise_drawn p (drop (c.args.m * c.small_length.result) c.args.noise.now) in
    let w = borrowed_wrote (6 * p.n) p.n c.args.work.now noisy (rw take_rest at c.draw_noise.ensures) (length_noise p _) (omega arith) in
    (scaled_requires p p.l room w (omega (arith, set.modulus-most)) c.requires.work_exact.1 (noise_scaled p set _)).1

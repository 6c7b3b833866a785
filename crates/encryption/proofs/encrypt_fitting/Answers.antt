-- `encrypt_fitting`: its tests come in the table's order, the mask's octets lie inside the random octets, and those for the noise are counted before
-- the ciphertext is written.
-- Assumes nothing.
use Rattle.std.proofs.Common.{◌+◌, ◌*◌, ◌≤◌, ◌≡◌, sym, ◌∙◌, length, true, arith, Ok}
use Rattle.std.proofs.lemmas.Result.{err_from_is_err_and}
use native.Mathlib.Nat.{mul-le-mul}
use Rattle.definitions.specs.Parameters.{public_length, monomial_count}
use Rattle.definitions.specs.Octets.{padding_clear}
use Rattle.definitions.specs.Calls.{elements_fit}
use Rattle.definitions.proofs.Parameters.{accepted-set, modulus_positive, modulus_word, qlen-least, qlen-most}
use Rattle.definitions.proofs.Calls.{encrypt_exact-told}
use Rattle.parameters.specs.Answers.{set_from}
use Rattle.parameters.proofs.Answers.{refusal-some}
use Rattle.draws.specs.declared.Run.{Run}
use Rattle.draws.proofs.Runs.{said-exhausted}
use Rattle.judging.proofs.Judged.{judged-fits}
use Rattle.packing.proofs.Unused.{padding_number_passed}
use Rattle.ciphertext_elements.proofs.Elements.{degree-most, count_most}
use Rattle.encryption.proofs.Returns.{first-padding, first-coefficient, first-mask, first-noise, first-none, left_refused, left_accepted}
use Rattle.encryption.proofs.Mask.{MaskDrawn, mask-within, mask-told, drawn_inputs, used-counted, ciphertext-same, noise_lent, noise_enough, small_most}
use Rattle.encryption.proofs.encrypt_fitting.Goals as goal
use Rattle.encryption.proofs.encrypt_fitting.Goals.{After-judge, After-draw_mask, After-small_length}

-- ---- what each place tells

padded : (c : After-judge) → padding_clear c.args.p.set.mlen c.args.message.now ≡ true
padded c = padding_number_passed _ _ (sym c.in_ok-padding.ensures)

fits : (c : After-draw_mask) → elements_fit (set_from c.args.p) (monomial_count c.args.p.set.dx) c.args.public.now ≡ true
unfolding public_length
fits c =
    let p = set_from c.args.p in
    judged-fits p (accepted-set p c.args.p.accepted) _ c.args.public.now (encrypt_exact-told p c.requires).0 c.octets_of_coefficient-width.ensures
    c.judge.ensures (rw c.in_ok-judge.was)

-- the drawn mask
mask : (c : After-draw_mask) {run : Run} → c.draw_mask.result ≡ Ok run
    → MaskDrawn (set_from c.args.p) c.args.random.now (c.octets_of_coefficient-width.result * run.groups) run.dropped c.draw_mask.new.work
mask c e = mask-told (set_from c.args.p) c.args.random.now _ e c.draw_mask.ensures c.octets_of_coefficient-width.ensures

-- the octets of the noise are few
noise-most : (c : After-small_length) → c.monomial_count.result * c.small_length.result ≤ 15 * 4096
noise-most c =
    let set = accepted-set _ c.args.p.accepted in
    let few : c.monomial_count.result ≤ 15 = rw c.monomial_count.ensures (count_most _ set) in
    let small : c.small_length.result ≤ 4096 = rw c.small_length.ensures (small_most _ set) in
    mul-le-mul few small

-- ---- answers

pub returns-in_err-padding : goal.returns-in_err-padding
returns-in_err-padding c =
    let a = c.args in
    let same = err_from_is_err_and c.from_residual.result c.from_residual.ensures.1 in
    rw (same.1, same.2)
    (left_refused (set_from a.p) a.public.now a.message.now a.random.now a.ciphertext.now a.used.now a.dropped_groups.now a.work.now a.p.accepted c.requires _
    (refusal-some _) (first-padding (set_from a.p) a.public.now a.message.now a.random.now c.in_err-padding.ensures (refusal-some _)))

pub judge-requires : goal.judge-requires
judge-requires c =
    let set = accepted-set _ c.args.p.accepted in
    rw c.octets_of_coefficient-width.ensures (qlen-least _ (modulus_positive _ set) (modulus_word _ set), qlen-most _)

pub draw_mask-requires : goal.draw_mask-requires
draw_mask-requires c = (encrypt_exact-told (set_from c.args.p) c.requires).3

pub overflow_mul-start : goal.overflow_mul-start
overflow_mul-start c = record { fits = omega (arith, mask-within (mask (goal.at.overflow_mul-start c).After-draw_mask c.in_ok-run.was)) }

pub overflow_add-p : goal.overflow_add-p
overflow_add-p c = record { fits = omega (arith, degree-most (set_from c.args.p) (accepted-set _ c.args.p.accepted)) }

pub monomial_count-requires : goal.monomial_count-requires
monomial_count-requires c = degree-most (set_from c.args.p) (accepted-set _ c.args.p.accepted)

pub overflow_mul-end : goal.overflow_mul-end
overflow_mul-end c = record { fits = omega (arith, noise-most (goal.at.overflow_mul-end c).After-small_length) }

pub overflow_add-end : goal.overflow_add-end
overflow_add-end c =
    record {
      fits =
          omega (
            arith,
            noise-most (goal.at.overflow_add-end c).After-small_length,
            mask-within (mask (goal.at.overflow_add-end c).After-draw_mask c.in_ok-run.was),
          );
    }

pub returns-in_err-judge : goal.returns-in_err-judge
unfolding public_length
returns-in_err-judge c =
    let a = c.args in
    let p = set_from a.p in
    let same = err_from_is_err_and c.from_residual-in_err-judge.result c.from_residual-in_err-judge.ensures.1 in
    let first =
    first-coefficient p a.public.now a.message.now a.random.now (padded (goal.at.returns-in_err-judge c).After-judge) c.octets_of_coefficient-width.ensures
    (encrypt_exact-told p c.requires).0 a.p.accepted c.in_err-judge.ensures (refusal-some _) in
    rw (same.1, same.2)
    (left_refused p a.public.now a.message.now a.random.now a.ciphertext.now a.used.now a.dropped_groups.now a.work.now a.p.accepted c.requires _ (refusal-some _) first)

pub returns-in_err-run : goal.returns-in_err-run
returns-in_err-run c =
    let a = c.args in
    let p = set_from a.p in
    let call = goal.at.returns-in_err-run c in
    let same = err_from_is_err_and c.from_residual-in_err-run.result c.from_residual-in_err-run.ensures.1 in
    let spent = said-exhausted _ _ c.in_err-run.was c.draw_mask.ensures in
    rw (same.1, same.2, spent.0)
    (left_refused p a.public.now a.message.now a.random.now a.ciphertext.now a.used.now a.dropped_groups.now a.work.now a.p.accepted c.requires 9 (λ z. omega (arith, z))
    (first-mask p a.public.now a.message.now a.random.now (padded call.After-judge) (fits call.After-draw_mask) spent.1))

pub returns-then-random-end : goal.returns-then-random-end
returns-then-random-end c =
    let a = c.args in
    let p = set_from a.p in
    let call = goal.at.returns-then-random-end c in
    let m = mask call.After-draw_mask c.in_ok-run.was in
    let counted = used-counted a.p.accepted m c.monomial_count.ensures c.small_length.ensures in
    left_refused p a.public.now a.message.now a.random.now a.ciphertext.now a.used.now a.dropped_groups.now a.work.now a.p.accepted c.requires 9 (λ z. omega (arith, z))
    (first-noise p a.public.now a.message.now a.random.now (padded call.After-judge) (fits call.After-draw_mask) m.enough (omega (arith, counted)))

pub returns : goal.returns
returns c =
    let a = c.args in
    let p = set_from a.p in
    let call = goal.at.returns c in
    let m = mask call.After-draw_mask c.in_ok-run.was in
    let counted = used-counted a.p.accepted m c.monomial_count.ensures c.small_length.ensures in
    left_accepted p a.public.now a.message.now a.random.now a.ciphertext.now a.used.now a.dropped_groups.now a.work.now a.p.accepted c.requires
    (first-none p a.public.now a.message.now a.random.now (padded call.After-judge) (fits call.After-draw_mask) m.enough (omega (arith, counted)))
    (c.write_elements.ensures ∙ ciphertext-same a.p.accepted m a.public.now a.message.now _ (noise_lent a.random.now (mask-within m))) counted m.counted

pub write_elements-requires : goal.write_elements-requires
write_elements-requires c =
    let p = set_from c.args.p in
    let call = (goal.at.write_elements-requires c).After-draw_mask in
    let m = mask call c.in_ok-run.was in
    let start = c.octets_of_coefficient-width.result * c.in_ok-run.run'.groups in
    let exact = encrypt_exact-told p c.requires in
    let enough : start + c.monomial_count.result * c.small_length.result ≤ length c.args.random.now = omega arith in (
      record {
        inputs = drawn_inputs c.args.p.accepted m exact.0 (fits call) (c.draw_mask.auto.work ∙ exact.3);
        room = noise_enough p c.args.random.now start c.monomial_count.ensures c.small_length.ensures enough;
      },
      exact.2,
    )

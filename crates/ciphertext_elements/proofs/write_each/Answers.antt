-- `write_each`: each turn writes one element's octets, from the sum by the mask as it was at entry.
-- Assumes nothing.
use Rattle.std.proofs.Common.{◌<◌, ◌≡◌, refl, ◌∙◌, arith}
use Rattle.definitions.specs.Parameters.{degree, monomial_count}
use Rattle.parameters.specs.Answers.{set_from}
use Rattle.mask_products.proofs.Sums.{inputs-set}
use Rattle.ciphertext_elements.proofs.Elements.{degree-most}
use Rattle.ciphertext_elements.proofs.Ciphertext.{elements_none, element_step, elements_end, ciphertext-room}
use Rattle.ciphertext_elements.proofs.write_each.Goals as goal

pub overflow_add-p : goal.overflow_add-p
overflow_add-p c = record { fits = omega (arith, degree-most (set_from c.args.p) (inputs-set c.requires.encrypting.0.inputs)) }

pub monomial_count-m-end-requires : goal.monomial_count-m-end-requires
monomial_count-m-end-requires c = degree-most (set_from c.args.p) (inputs-set c.requires.encrypting.0.inputs)

pub loop-m-init : goal.loop-m-init
loop-m-init c = (refl, refl, refl, elements_none _ _ _ _)

pub loop-m-preserved : goal.loop-m-preserved
loop-m-preserved c =
    let a = c.args in
    let inv = c.loop-m.invariant in
    let sum = c.sum_element.ensures in
    let below : c.loop-m.m < monomial_count (degree (set_from c.args.p)) = omega (arith, c.monomial_count-m-end.ensures) in (
      sum.mask ∙ inv.0,
      sum.as_long ∙ inv.1,
      c.encode_element.auto.ciphertext ∙ inv.2,
      element_step (set_from a.p) a.public.now a.message.now a.noise.now a.work.now c.loop-m.m c.loop-m.ciphertext _ inv.0 sum
          (ciphertext-room (set_from a.p) c.loop-m.ciphertext below refl (inv.2 ∙ c.requires.encrypting.1)) c.encode_element.ensures inv.3,
    )

pub returns : goal.returns
returns c =
    let a = c.args in
    let e : c.loop-m.m ≡ monomial_count (degree (set_from a.p)) = omega (arith, c.monomial_count-m-end.ensures) in
    elements_end (set_from a.p) a.public.now a.message.now a.noise.now a.work.now c.loop-m.ciphertext e
    (c.loop-m.invariant.2 ∙ c.requires.encrypting.1) c.loop-m.invariant.3

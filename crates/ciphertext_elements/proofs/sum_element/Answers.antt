-- `sum_element` adds the noise and the message to the product, one after the other.
-- Assumes nothing.
use Rattle.std.proofs.Common.{◌∙◌}
use Rattle.definitions.proofs.Parameters.{modulus_positive}
use Rattle.mask_products.proofs.Sums.{inputs-set, sum_in_ring}
use Rattle.ciphertext_elements.proofs.Elements.{sum_element}
use Rattle.ciphertext_elements.proofs.sum_element.Goals as goal

pub add_noise-requires-clause-work_exact : goal.add_noise-requires-clause-work_exact
add_noise-requires-clause-work_exact c =
    let g = c.requires.encrypting.0.inputs in
    let product = c.product_element.ensures in
    (product.as_long ∙ g.work-exact, sum_in_ring (modulus_positive _ (inputs-set g)) product)

pub add_message-requires-clause-work_exact : goal.add_message-requires-clause-work_exact
add_message-requires-clause-work_exact c =
    let g = c.requires.encrypting.0.inputs in
    let noise = c.add_noise.ensures.is in
    (noise.as_long ∙ c.product_element.ensures.as_long ∙ g.work-exact, sum_in_ring (modulus_positive _ (inputs-set g)) noise)

pub returns : goal.returns
returns c = sum_element c.args.public.now c.args.message.now c.args.noise.now c.args.m c.product_element.ensures c.add_noise.ensures c.add_message.ensures

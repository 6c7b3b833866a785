-- `product_element` takes the product one way or the other; both ways are the same product.
-- Assumes nothing.
use Rattle.shared_products.proofs.Terms.{prepared_shared}
use Rattle.ciphertext_elements.proofs.Elements.{sum_shared}
use Rattle.ciphertext_elements.proofs.product_element.Goals as goal

pub product_at-requires : goal.product_at-requires
product_at-requires c =
    (prepared_shared c.requires.key_and_mask.0 (rw c.in-Some.is at c.requires.prepared_key), c.requires.key_and_mask.1)

pub returns-in-Some : goal.returns-in-Some
returns-in-Some c = sum_shared c.args.m (rw c.in-Some.is at c.requires.prepared_key) c.product_at.ensures

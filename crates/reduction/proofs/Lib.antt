-- Why the high half of a product, and a remainder without a division, are right.
pub mod Laws

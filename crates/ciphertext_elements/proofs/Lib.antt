-- Laws that the proofs of this crate and of the crate above it cite.
pub mod Ciphertext
pub mod Elements

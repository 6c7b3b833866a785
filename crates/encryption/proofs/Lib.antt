-- Laws that the proofs cite.
pub mod Returns
pub mod Mask

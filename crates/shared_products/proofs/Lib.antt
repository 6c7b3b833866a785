-- Laws that the proofs cite.
pub mod Pairs
pub mod Turns
pub mod Terms

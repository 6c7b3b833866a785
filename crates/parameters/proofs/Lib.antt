-- Laws that the proofs of this crate and of the crates above it cite.
pub mod Answers
pub mod Bounds
pub mod NoiseBound

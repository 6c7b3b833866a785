-- Laws that the proofs cite.
pub mod Parts
pub mod Words
pub mod Draws

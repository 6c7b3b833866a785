-- Laws that the proofs cite.
pub mod Fields
pub mod Groups
pub mod Lanes
pub mod Shifts
pub mod Unused

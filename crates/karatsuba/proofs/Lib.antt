-- Why three products of half the length are enough.
pub mod Steps
pub mod Identity
pub mod Halves
pub mod Levels

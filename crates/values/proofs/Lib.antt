-- Why Horner's rule gives the value, and what its loops keep.
pub mod Horner
pub mod Loops

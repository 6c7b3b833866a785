-- A modulus and its reciprocal.
pub mod Moduli

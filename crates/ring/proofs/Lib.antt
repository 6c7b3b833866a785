-- Laws of the work words, of sums of two coefficients, and of the product of two polynomials.
pub mod Work
pub mod Coefficients
pub mod Linear
pub mod Borrowed
pub mod Zeros

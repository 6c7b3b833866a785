-- How elements stand in the work words, the sum of two coefficients, and the product of two polynomials.
pub mod Work
pub mod Coefficients
pub mod Linear

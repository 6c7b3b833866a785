-- Why a product of two polynomials, folded, is the product in R_q.
pub mod Halvings
pub mod Loading
pub mod Folding

-- Laws of the sum by rows.
pub mod Bounds
pub mod Rows

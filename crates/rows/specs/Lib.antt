-- How a product is summed by rows.
pub mod Rows

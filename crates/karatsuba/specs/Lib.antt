-- How a product is halved, and what a product by Karatsuba leaves behind.
pub mod Halvable
pub mod Products

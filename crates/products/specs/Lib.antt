-- What a product asks and gives.
pub mod Products

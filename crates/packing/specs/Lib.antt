-- What the contracts cite besides the definitions.
pub mod Fields
pub mod Lanes

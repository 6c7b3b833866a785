-- What the contracts cite besides the definitions.
pub mod Elements

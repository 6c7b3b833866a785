-- What the contracts cite besides the definitions.
pub mod Parts
pub mod Numbers

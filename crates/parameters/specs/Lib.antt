-- What the contracts cite besides the definitions.
pub mod Answers
pub mod Numbers
pub mod Refusals

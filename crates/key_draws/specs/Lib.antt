-- What stands in the work words while keys are made.
pub mod Keys

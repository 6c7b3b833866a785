-- What the draws answer.
pub mod Runs

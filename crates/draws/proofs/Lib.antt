-- Laws of groups of octets and of runs of draws.
pub mod Groups
pub mod Runs
pub mod Secrets

-- Laws of a run: what was read, written, kept and left to read.
pub mod Runs

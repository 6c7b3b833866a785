-- Laws of printed text.
pub mod Printing

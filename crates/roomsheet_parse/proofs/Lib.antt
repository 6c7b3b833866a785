-- Laws of the parts of a text and of the numbers of a line.
pub mod Parts
pub mod Numbers
pub mod Fields

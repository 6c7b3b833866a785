-- Laws of the answer to a line, of a text answered line after line however it is cut, and of the buffer that it is read into.
pub mod Judging
pub mod Texts
pub mod Buffers

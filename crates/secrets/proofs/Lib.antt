-- Why the two halves of a secret's octets are its elements, and the value found at them is the polynomial's.
pub mod Halves
pub mod Laws

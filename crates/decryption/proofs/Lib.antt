-- Why decryption answers what the definitions do: the tail, the message, and what each return leaves.
pub mod Tail
pub mod Laws

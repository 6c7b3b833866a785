-- Why the zero test answers what the definitions do: what each of its returns leaves.
pub mod Laws

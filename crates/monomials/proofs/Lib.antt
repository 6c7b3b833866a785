-- The table's rule.
pub mod Table

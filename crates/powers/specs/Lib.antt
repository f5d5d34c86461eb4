-- The table's entries, as a list.
pub mod Table

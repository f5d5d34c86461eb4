-- What the two tables hold.
pub mod Fields

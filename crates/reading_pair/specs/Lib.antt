pub mod Limit
pub mod Widths

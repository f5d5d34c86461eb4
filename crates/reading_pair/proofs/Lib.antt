pub mod Limit
pub mod Filter
pub mod Pairs

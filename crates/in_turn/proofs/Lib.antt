pub mod Turns
pub mod Promise
pub mod Packed

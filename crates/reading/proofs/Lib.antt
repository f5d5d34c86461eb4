pub mod Counted
pub mod Words
pub mod Wraps
pub mod Settled
pub mod Rose
pub mod Tails

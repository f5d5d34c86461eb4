pub mod Tallies
pub mod Walks
pub mod Methods
pub mod Turns
pub mod Once
pub mod Words

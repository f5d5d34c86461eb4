pub mod Tallies
pub mod Walk
pub mod Methods
pub mod Once

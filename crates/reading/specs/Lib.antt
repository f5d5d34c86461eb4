pub mod Left
pub mod Tails
pub mod Words

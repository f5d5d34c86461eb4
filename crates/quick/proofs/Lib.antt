pub mod Doubles
pub mod Codes
pub mod Finest
pub mod Numbers

pub mod Walk
pub mod Calls

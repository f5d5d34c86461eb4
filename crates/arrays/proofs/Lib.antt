pub mod Outcomes
pub mod Rest
pub mod Others

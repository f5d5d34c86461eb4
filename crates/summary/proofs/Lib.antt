pub mod Keys
pub mod Made
pub mod Patterns

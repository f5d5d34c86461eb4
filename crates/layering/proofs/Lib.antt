pub mod One
pub mod Ready

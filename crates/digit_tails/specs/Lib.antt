-- The step of method 6.
pub mod Step

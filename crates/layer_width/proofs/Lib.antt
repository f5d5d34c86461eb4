-- The steps of a width.
pub mod Steps

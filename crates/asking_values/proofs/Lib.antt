-- A test of floats.
pub mod Finite

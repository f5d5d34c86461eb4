-- The questions on layers, and a test of every element of a slice.
pub mod Layers
pub mod Every

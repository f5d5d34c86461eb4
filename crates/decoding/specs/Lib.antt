-- What the code computes by floats.
pub mod Floats

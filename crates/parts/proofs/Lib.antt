pub mod Fills
pub mod Back

-- Floats by their values, and how adding rounds them; then method 5 by floats, and by whole numbers.
pub mod NotNan
pub mod Values
pub mod Adding
pub mod Clip
pub mod Fine
pub mod Whole

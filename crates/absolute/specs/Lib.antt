-- What method 5 makes of one magnitude.
pub mod Stepped

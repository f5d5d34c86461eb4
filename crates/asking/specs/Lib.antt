-- What the questions before a trim give the code.
pub mod Asked

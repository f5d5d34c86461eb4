-- The loops over codes, and the answer by the questions.
pub mod Gathering
pub mod Asked

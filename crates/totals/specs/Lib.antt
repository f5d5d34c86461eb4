-- The documents' values for an answer, and what the code has of the lanes.
pub mod Answers
pub mod Gathered

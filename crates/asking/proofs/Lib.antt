-- What tests of a signed setting say; what the questions before a trim give; that the code answers them.
pub mod Signs
pub mod Questions
pub mod Ranges
pub mod Answers

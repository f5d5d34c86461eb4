-- What the code answers, and what it knows of the layers that it unpacks.
pub mod Answers
pub mod Known

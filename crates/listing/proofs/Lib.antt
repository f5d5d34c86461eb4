-- The loops and the joins of `listing`, over plain lists.
pub mod Answers
pub mod Series
pub mod Pieces
pub mod Whole

-- What the method that a word names says of the word.
pub mod Words

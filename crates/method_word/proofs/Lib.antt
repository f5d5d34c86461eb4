-- Laws of comparing words.
pub mod WordLaws

-- Laws of the writers at a place.
pub mod Paste
pub mod Series
pub mod PutLaws
pub mod FieldLaws
pub mod LaidLaws

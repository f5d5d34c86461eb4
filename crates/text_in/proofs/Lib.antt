-- Laws of the readers at a place.
pub mod RowLaws
pub mod LineLaws
pub mod Series
pub mod NameLaws
pub mod ParseLaws

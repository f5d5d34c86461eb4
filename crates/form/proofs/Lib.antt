-- Laws of the text.
pub mod Reading
pub mod CasesRows
pub mod Cases

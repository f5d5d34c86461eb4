-- Laws of the readers of fields.
pub mod Walk
pub mod Signs

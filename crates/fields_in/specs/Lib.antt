-- What the answers of the readers of fields say of a text.
pub mod Fields

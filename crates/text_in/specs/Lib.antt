-- What the answers of the readers say of a text.
pub mod Places

-- What the writers lay over a slice.
pub mod Places

-- The loop over layers; the whole call.
pub mod Turns
pub mod Calls

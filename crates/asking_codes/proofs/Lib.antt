-- The bits of codes, and the loop over layers.
pub mod Bits
pub mod Turns

-- What the code finds of codes.
pub mod Codes

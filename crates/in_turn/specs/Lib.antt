pub mod Lists
pub mod Packed

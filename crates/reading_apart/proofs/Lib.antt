pub mod Sums
pub mod Distances

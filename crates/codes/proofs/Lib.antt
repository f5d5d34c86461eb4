pub mod Each
pub mod Sum
pub mod Leaf
pub mod Reading
pub mod Wide
pub mod Least

pub mod Coarse

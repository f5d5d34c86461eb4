-- The kit's rounding against document 01's; singles as references; 2^E; the float formula; a subnormal reference as a double; codes that are equal; one code; what is no NaN.
pub mod Nearest
pub mod References
pub mod Steps
pub mod Sums
pub mod Subnormal
pub mod Equal
pub mod Codes
pub mod Numbers

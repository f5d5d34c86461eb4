-- Method 6 for every width; what the table says of a double; the double of a single.
pub mod Digit
pub mod Tail
pub mod Decades
pub mod Singles
pub mod Widths

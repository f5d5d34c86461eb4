-- Document 01, "The program": the form of the input, its reading, and what is printed.
pub mod Form
pub mod Parse
pub mod Output

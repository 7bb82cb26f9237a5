-- What the crate's own functions ask of each other.
pub mod Place
pub mod Rows
pub mod Room

-- What the crate's own functions ask of each other.
pub mod Sliding
pub mod Begun
pub mod Rows

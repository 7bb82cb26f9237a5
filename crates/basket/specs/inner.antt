-- What the crate's own functions ask of each other.
pub mod Adding
pub mod Listed
pub mod Opened
pub mod Parts

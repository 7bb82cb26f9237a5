-- What the crate's own functions ask of each other.
pub mod Spread

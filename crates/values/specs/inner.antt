-- What the crate's own functions ask of each other.
pub mod Fraction
pub mod Part
pub mod Quick

-- What the crate's own functions ask of each other.
pub mod Best
pub mod Part
pub mod Range
pub mod Windows
pub mod Blocks

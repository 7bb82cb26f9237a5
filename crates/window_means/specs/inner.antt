-- What the crate's own functions ask of each other.
pub mod Averaged
pub mod Row
pub mod Storing
pub mod Ticks
pub mod Ranges

-- What the crate's own functions ask of each other.
pub mod Positions
pub mod Tie
pub mod Ticks

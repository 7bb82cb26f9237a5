pub mod Positions
pub mod ByMargins
pub mod Single
pub mod Ticks

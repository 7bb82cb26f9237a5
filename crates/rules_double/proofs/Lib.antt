pub mod Spread
pub mod Ticks
pub mod Bounds
pub mod Double
pub mod Open

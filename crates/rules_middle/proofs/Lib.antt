mod Positions
pub mod Middle
pub mod ByMargins
pub mod Ticks

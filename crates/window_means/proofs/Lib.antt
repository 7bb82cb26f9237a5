pub mod Row
pub mod Storing
pub mod Ticks
pub mod Through

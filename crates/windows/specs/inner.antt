-- What the functions that write running means ask and promise.
pub mod Windows
pub mod Lanes
pub mod RunningSums
pub mod Sums
pub mod Means

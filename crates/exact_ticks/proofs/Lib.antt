pub mod Bounds
pub mod Errors
pub mod Exact
pub mod RunningSums
pub mod TickMeans

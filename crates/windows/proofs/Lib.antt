pub mod Lanes
pub mod RunningSums
pub mod Window
pub mod Means
pub mod Zeros

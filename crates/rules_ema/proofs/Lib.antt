pub mod Search
pub mod SingleEma
pub mod Bounds
pub mod Decides
pub mod Head
pub mod ByMargins
pub mod FinishedIf

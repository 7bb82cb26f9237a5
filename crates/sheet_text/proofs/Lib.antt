pub mod Bound
pub mod Feeding
pub mod Parts

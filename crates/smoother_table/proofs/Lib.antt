pub mod Bounds
pub mod Period

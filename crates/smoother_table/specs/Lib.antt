-- The coefficients of the ultimate smoother, and which numbers are its periods.
pub mod Bounds
pub mod Coefficients
pub mod Period
pub mod Recorded

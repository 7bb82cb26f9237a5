-- Bands about the ultimate smoother.
pub mod inner
pub mod Bands
pub mod Cases

-- The volatility smoothed three times.
pub mod Jurik
pub mod inner
pub mod Cases

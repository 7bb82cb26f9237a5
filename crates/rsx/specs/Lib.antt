-- The smoothed relative strength index.
pub mod Cases
pub mod Rsx
pub mod inner

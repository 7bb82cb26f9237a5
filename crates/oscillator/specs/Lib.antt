-- The ultimate oscillator.
pub mod Oscillator
pub mod inner
pub mod Cases

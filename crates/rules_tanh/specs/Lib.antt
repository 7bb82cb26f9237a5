-- The tanh rule.
pub mod Cases
pub mod inner
pub mod Recorded
pub mod Tanh

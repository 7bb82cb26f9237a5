-- The averages: what each of them is.
pub mod Cases
pub mod Sma
pub mod inner
pub mod Blend
pub mod ExponentialCases
pub mod Ema
pub mod ExponentialSmoothing

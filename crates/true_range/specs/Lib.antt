-- True range.
pub mod Cases
pub mod TrueRange
pub mod inner

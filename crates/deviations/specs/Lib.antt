-- The deviation of a window's cells about their mean.
pub mod Cases
pub mod Deviation
pub mod inner

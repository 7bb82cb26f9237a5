-- Sums of whole ticks, and their mean to a whole tick.
pub mod inner
pub mod Cases
pub mod Nearest
pub mod TickMean

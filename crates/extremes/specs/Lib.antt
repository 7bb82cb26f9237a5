-- The highest and the lowest of the last n cells.
pub mod Extreme
pub mod Whole
pub mod inner

-- The means of a series, and their ranges.
pub mod inner

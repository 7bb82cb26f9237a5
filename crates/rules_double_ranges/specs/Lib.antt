-- The two-average rule on prices known only within a range: what it answers and writes.
pub mod Ranges
pub mod Cases
pub mod inner

-- Counts of neighbouring cells.
pub mod Counted
pub mod inner

-- The one-average rule: what it answers and writes.
pub mod inner
pub mod Cases
pub mod Single

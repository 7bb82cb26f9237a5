-- The double rule: what it answers and writes.
pub mod Double
pub mod inner
pub mod Cases

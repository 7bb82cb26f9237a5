-- The triple rule: what it answers and writes.
pub mod Triple
pub mod Cases
pub mod inner

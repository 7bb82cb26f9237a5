-- The ultimate smoother: what it answers and writes.
pub mod Cases
pub mod Smoother
pub mod inner

-- The min-max rule: what it answers and writes.
pub mod Cases
pub mod Mms

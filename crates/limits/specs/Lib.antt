-- The limits of a call.
pub mod Limits

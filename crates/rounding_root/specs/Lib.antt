-- The square root's definition, and what it means.
pub mod inner
pub mod Cases
pub mod Meaning
pub mod Root

-- Which numbers a series may hold.
pub mod Accepted
pub mod Cases
pub mod inner

-- How a request is answered, and what a whole sheet is.
pub mod Answer
pub mod ByDesk
pub mod Cases
pub mod Counts
pub mod Sheet
pub mod Whole
pub mod inner

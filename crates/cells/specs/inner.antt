-- What the crate's own functions ask of each other.
pub mod Kept
pub mod Leads
pub mod MoreWritten
pub mod Recurring
pub mod Rows
pub mod Touched
pub mod Finished
pub mod Scratch

pub mod Deviation
pub mod Call
pub mod First
pub mod Lines

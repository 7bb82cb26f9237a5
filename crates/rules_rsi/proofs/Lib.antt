pub mod Index
pub mod Rows

pub mod Bars
pub mod Between
pub mod Meaning
pub mod Open
pub mod Order
pub mod Pairs
pub mod Seam

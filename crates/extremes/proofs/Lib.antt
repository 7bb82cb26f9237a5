pub mod Extreme
pub mod Order
pub mod Best
pub mod Part
pub mod Range
pub mod Lead
pub mod Parts

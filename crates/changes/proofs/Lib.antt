pub mod Bars
pub mod Causal

pub mod Bars
pub mod Causal
pub mod Stages

pub mod Stages
pub mod Causal

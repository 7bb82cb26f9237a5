pub mod Causal
pub mod Indexed
pub mod Stages

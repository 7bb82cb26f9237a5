pub mod TwoPasses
pub mod Copied
pub mod Causal
pub mod Fused
pub mod Stages

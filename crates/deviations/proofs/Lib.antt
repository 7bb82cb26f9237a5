pub mod Causal
pub mod Squares

mod Adding
mod Afresh
mod Answers
pub mod Causal
mod Checks
pub mod Groups
mod Later
mod Netting
pub mod Orders
mod Own
pub mod Positions
pub mod Rows
mod Weights

pub mod Bounds
pub mod Causal
pub mod Cells
pub mod CausalRolling
pub mod Distances
pub mod Place
pub mod RollingCells

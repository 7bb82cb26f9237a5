-- The leaves' definitions.
pub mod Cases
pub mod Leaves
pub mod Literals
pub mod Nearest
pub mod Whole

pub mod NotANumber
pub mod Opposite
pub mod Patterns
pub mod Signs
pub mod ToWhole

pub mod Smoother
pub mod WarmUp

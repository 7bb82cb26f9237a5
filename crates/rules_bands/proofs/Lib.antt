pub mod Bands
pub mod Guess
pub mod Narrow
pub mod Stages

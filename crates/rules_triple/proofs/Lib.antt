pub mod Crossover
pub mod FourRows
pub mod Open

pub mod Sliding
pub mod Cells
pub mod TickCells
pub mod Calls
pub mod Oscillator
pub mod Zeros

pub mod Call
pub mod Cells
pub mod Room
pub mod InNumbers

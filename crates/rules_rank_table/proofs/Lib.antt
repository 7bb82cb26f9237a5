pub mod ByRow
pub mod Causal
pub mod Complete
pub mod Known
pub mod Open
pub mod Picked
pub mod Ranks
pub mod RowsRead

-- What the stages that use running sums ask and promise.
pub mod Decided
pub mod Margin

-- The rule against the relative strength index.
pub mod RsiReverse
pub mod inner
pub mod Cases

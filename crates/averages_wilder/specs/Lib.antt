-- Wilder's average and his relative strength index.
pub mod Cases
pub mod Wilder
pub mod WilderRsi
pub mod inner

-- Positions that are held until they close.
pub mod Cases
pub mod Held

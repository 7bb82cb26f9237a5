pub mod TrueRange

-- Two lines beside a middle line.
pub mod OuterLines
pub mod inner

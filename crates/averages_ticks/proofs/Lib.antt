pub mod Even
pub mod Nearest
pub mod Share
pub mod Whole
pub mod Causal
pub mod Ticks

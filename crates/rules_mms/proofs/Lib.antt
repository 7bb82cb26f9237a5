pub mod Scaled
pub mod Within

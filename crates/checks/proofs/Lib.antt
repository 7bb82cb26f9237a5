pub mod Due
pub mod Passed
pub mod Steps
pub mod Table
pub mod Three
pub mod Two

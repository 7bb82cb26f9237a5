pub mod Compared
pub mod Enclosed
pub mod Itself
pub mod Outward
pub mod Rounded
pub mod Wholes
pub mod WithZero
pub mod Within

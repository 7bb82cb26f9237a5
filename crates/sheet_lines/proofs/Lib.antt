pub mod Printing
pub mod Reading
pub mod Signs
pub mod Bars
pub mod Asked
pub mod Fed
pub mod LineLength
pub mod Positions

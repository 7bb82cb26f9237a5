-- Lines of cells, recurrences, searches, and slices that are written.
pub mod Line
pub mod Recur
pub mod Search
pub mod Shown
pub mod Written
pub mod inner

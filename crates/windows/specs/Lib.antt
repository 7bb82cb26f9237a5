-- Sums and means of the last n cells.
pub mod Window
pub mod inner

-- A block read and answered, and the sheet of a whole input.
pub mod SheetText
pub mod inner

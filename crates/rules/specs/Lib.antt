-- The rules that have a number, as the sheet's requests name them, and what a position of a rule says.
pub mod ByNumber
pub mod Position

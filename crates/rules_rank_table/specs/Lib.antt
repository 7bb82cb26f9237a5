-- Positions by a desk's rank table: the table, what a call answers and writes, and which tables are taken.
pub mod Cases
pub mod inner
pub mod RankTable
pub mod Table
pub mod Taken

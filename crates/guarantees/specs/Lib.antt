-- What a user gets, as theorems about the definitions that the contracts cite.
pub mod Basket
pub mod BollOfOne
pub mod Exceptions
pub mod FlatMarket
pub mod FromC
pub mod Leaves
pub mod NanLines
pub mod NoLookAhead
pub mod OnTicks
pub mod Positions
pub mod Ranges
pub mod RankPlace
pub mod RankTable
pub mod Series
pub mod SheetCounts
pub mod Starred
pub mod WholeCells

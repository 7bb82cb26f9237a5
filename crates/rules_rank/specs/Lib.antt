-- The ranks: what `rank_positions` and `rolling_rank` answer and write, and places in a sorted window.
pub mod inner
pub mod Rank
pub mod RankCases
pub mod RollingRank
pub mod RollingRankCases
pub mod Sorted

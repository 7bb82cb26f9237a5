-- How near running sums are, and the margin beyond which they decide.
pub mod inner

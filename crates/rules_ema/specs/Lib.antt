-- The exponential rule: what it answers and writes, and small cases.
pub mod inner
pub mod SingleEma
pub mod Cases

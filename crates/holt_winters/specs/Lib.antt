-- Holt-Winters smoothing: what it answers and writes, and small cases.
pub mod Cases
pub mod HoltWinters
pub mod inner

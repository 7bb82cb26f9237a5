-- The ultimate channel.
pub mod Channel
pub mod inner
pub mod Cases

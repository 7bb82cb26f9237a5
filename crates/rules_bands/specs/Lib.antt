-- Both Bollinger rules.
pub mod Boll
pub mod BollReverse
pub mod inner
pub mod Cases

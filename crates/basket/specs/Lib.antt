-- Baskets of contracts: what a call answers, and the nets that it writes.
pub mod Basket
pub mod Cases
pub mod inner

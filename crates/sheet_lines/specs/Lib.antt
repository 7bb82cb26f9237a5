-- What a request's lines say, and what an answer prints.
pub mod Cases
pub mod Print
pub mod Read
pub mod inner
pub mod LineCases
pub mod Header
pub mod Printed
pub mod Reason
pub mod Rule

-- What a call answers, and its contract; the same in numbers for C.
pub mod Answer
pub mod Call
pub mod inner
pub mod Numbers

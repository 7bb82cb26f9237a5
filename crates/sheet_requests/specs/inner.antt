-- What answering a request asks of the program's buffers.
pub mod Place
pub mod Taken
pub mod Finished
pub mod Lent

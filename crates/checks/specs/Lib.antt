-- What is known of a call once it is checked.
pub mod inner

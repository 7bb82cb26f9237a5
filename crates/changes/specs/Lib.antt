-- Changes from bar to bar.
pub mod Changes

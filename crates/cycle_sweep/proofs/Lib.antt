mod Allowed
mod Matched
mod Pinned
mod Plain
pub mod Saying

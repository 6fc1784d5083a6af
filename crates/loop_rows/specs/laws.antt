pub mod Writing
pub mod Meeting

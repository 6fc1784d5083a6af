mod Lines
mod Seen
pub mod HaveWords
pub mod KeyTold
pub mod Masked
pub mod Paths

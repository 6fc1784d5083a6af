pub mod Names
pub mod Sites
pub mod Measures
pub mod Offsets
pub mod Speeds
pub mod Diagram
pub mod Report

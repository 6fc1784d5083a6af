pub mod Ratios
pub mod Steps
pub mod Ends

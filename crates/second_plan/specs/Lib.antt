pub mod Nearest
pub mod Seconds
pub mod Grid
pub mod Planned
pub mod Ends

pub mod Spelled
pub mod Cycling
pub mod Stopped
pub mod Next
pub mod Timing

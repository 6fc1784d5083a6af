pub mod Reached
pub mod Told
pub mod Delivered
pub mod Running
pub mod LastFrame

mod Below
pub mod Planning
mod Bounding
mod Explained
pub mod Pushed
pub mod Shaped
pub mod Tried
pub mod Typing
pub mod Room
pub mod Limits
pub mod Ending
mod Wholes

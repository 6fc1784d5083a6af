pub mod Steps
pub mod Sizes
pub mod Moved
pub mod Laws

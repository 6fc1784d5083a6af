pub mod Wholes
pub mod Choices
pub mod Searches
pub mod Steps
pub mod Finishing

pub mod Steps
pub mod Passing
pub mod Names
pub mod Validity

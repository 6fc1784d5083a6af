pub mod Changes
pub mod Changed
pub mod Names

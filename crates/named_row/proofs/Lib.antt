pub mod Operations
pub mod Columns
pub mod Whole
pub mod Zeros
pub mod Meaning
